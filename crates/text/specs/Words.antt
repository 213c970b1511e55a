-- What the code reads of a text at a place: names as numbers, numbers clamped, brackets.
use Rattle.std.specs.Prelude.{[], ◌∷◌, Bool, true, false, not, cond, ℕ, zero, suc, ◌+◌, ◌*◌, ◌-◌, ◌/◌, ◌%◌, min, ℤ, pos, negsuc, neg_ℤ, eqb, length, drop}
pub use Rattle.std.specs.Prelude.{Option as Found, Some, None}
use Rattle.std.proofs.Math.Option.{Option, none, some}
use Rattle.syntax.specs.Grammar.{Bytes, alnum, digit}
use Rattle.syntax.specs.Readers.{Read, plain, run, numeral, read_name, read_natural, read_int}
use Rattle.syntax.specs.Limits.{short, is_value, is_time, natural}
use Rattle.text.specs.declared.Class.{Class}
use Rattle.text.specs.declared.Class.TheVariants.{Alnum, Digit, Plain}
use Rattle.text.specs.declared.Name.{Name}
use Rattle.text.specs.declared.Number.{Number}

-- ---- what readers read, as the code has it

unfoldable pub seen : {A T : Type 0} → (A → T) → Option A → Found T
seen f none = None
seen f (some a) = Some (f a)

-- where in a text begins what is left of it
unfoldable pub left_at : {A : Type 0} → Bytes → Read A → ℕ
left_at s r = length s - length r.left

-- the same where there is a read
unfoldable pub read_end : {A : Type 0} → Bytes → Option (Read A) → Found ℕ
read_end s o = seen (left_at s) o

-- ---- runs of bytes

unfoldable pub class_of : Class → ℕ → Bool
class_of Alnum = alnum
class_of Digit = digit
class_of Plain = plain

-- where the run of bytes of a class ends that begins at a place
unfoldable pub run_end : Class → Bytes → ℕ → ℕ
run_end c s at = at + length (run (class_of c) (drop at s))

-- ---- names

-- bytes as one number, the first highest
unfoldable pub code_from : ℕ → Bytes → ℕ
code_from a [] = a
code_from a (b ∷ bs) = code_from (a * 256 + b) bs

unfoldable pub code_of : Bytes → ℕ
code_of w = code_from 0 w

-- and the bytes of a number, in front of others; the first argument bounds their number
unfoldable pub bytes_from : ℕ → ℕ → Bytes → Bytes
bytes_from zero n bs = bs
bytes_from (suc k) n bs = elim (eqb n 0) [ true ↦ bs | false ↦ bytes_from k (n / 256) ((n % 256) ∷ bs) ]

-- the name that a number stands for: at most eight bytes
unfoldable pub name_of : ℕ → Bytes
name_of n = bytes_from 8 n []

-- the name at a place: whether it is longer than a name may be, its number (0 where it is longer), and the place after it
unfoldable pub name_seen : Bytes → Read Bytes → Name
name_seen s r = record { long = not (short r.what); code = cond (short r.what) (code_of r.what) 0; next = left_at s r }

unfoldable pub name_found : Bytes → ℕ → Found Name
name_found s at = seen (name_seen s) (read_name (drop at s))

-- ---- numbers

-- past this nothing is told apart: it is beyond every range
unfoldable pub far : ℕ
far = 4294967296

unfoldable pub clamp : ℤ → ℤ
clamp (pos n) = pos (min n far)
clamp (negsuc n) = neg_ℤ (pos (min (suc n) far))

-- the number at a place, clamped, and the place after it
unfoldable pub number_seen : Bytes → Read ℤ → Number
number_seen s r = record { value = clamp r.what; next = left_at s r }

unfoldable pub number_found : Bytes → ℕ → Found Number
number_found s at = seen (number_seen s) (read_int (drop at s))

-- one with no minus
unfoldable pub natural_found : Bytes → ℕ → Found Number
natural_found s at = seen (number_seen s) (read_natural (drop at s))

-- where digits with no needless zero end that begin at a place
unfoldable pub numeral_end : Bytes → ℕ → Found ℕ
numeral_end s at = cond (numeral (run digit (drop at s))) (Some (run_end Digit s at)) None

-- a value within the 32 bits
unfoldable pub value_given : ℤ → Found ℤ
value_given z = cond (is_value z) (Some z) None

-- a time within its range
unfoldable pub time_given : ℤ → Found ℕ
time_given z = cond (is_time z) (Some (natural z)) None

-- a value within the 32 bits, and else 0
unfoldable pub value_kept : ℤ → ℤ
value_kept z = cond (is_value z) z (pos 0)

-- a time within its range, and else 0
unfoldable pub time_kept : ℤ → ℕ
time_kept z = cond (is_time z) (natural z) 0
