-- Keywords by their letters, and the numbers that the code has for them.
use Rattle.std.specs.Prelude.{◌≡◌, List, [], ◌∷◌, Bool, true, false, ◌&&◌, not, cond, ℕ, ◌+◌, T, ltb, eqb, length, drop}
pub use Rattle.std.specs.Prelude.{Result, Ok, Err, ok_or, option_and_then}
use Rattle.std.proofs.Math.Option.{Option, none, some}
use Rattle.lists.specs.Lists.{every, same_list}
use Rattle.syntax.specs.Grammar.{Bytes, Op, eq, ne, lt, le, gt, ge, right_word, fn_number, right_number}
use Rattle.syntax.specs.Limits.{max_line, short}
use Rattle.syntax.specs.Readers.{byte, plain, run, read_open, Head, compare, and, or, not_of, head_word, heads, rights, Kind, k_in, k_pick, k_keep, k_join, k_fn, kind_word, kinds, readers_compute}
use Rattle.text.specs.Words.{Found, Some, None, seen, read_end, code_from, code_of, bytes_from, name_of, run_end}
use Rattle.text.specs.declared.Class.TheVariants.{Plain}
use Rattle.text.specs.declared.Word.{Word}
use Rattle.text.specs.declared.Unread.{Unread}
use Rattle.text.specs.declared.Unread.TheVariants.{TooLong, Malformed}

-- ---- words by their codes

-- the letters of a word as one number; 0 for no word, for one that is longer than a name may be, and for one that begins with a byte 0
unfoldable pub word_code : Bytes → ℕ
word_code [] = 0
word_code (b ∷ bs) = cond (eqb b 0) 0 (cond (short (b ∷ bs)) (code_of (b ∷ bs)) 0)

unfoldable pub octet : ℕ → Bool
octet b = ltb b 256

-- a word that its code stands for: one to eight bytes, the first not 0
unfoldable pub keyword? : Bytes → Bool
keyword? [] = false
keyword? (b ∷ bs) = not (eqb b 0) && short (b ∷ bs) && every octet (b ∷ bs)

-- the word at a place, where it can be a keyword
unfoldable pub word_found : Bytes → ℕ → Found Word
word_found s at = let w = run plain (drop at s) in cond (keyword? w) (Some (record { code = code_of w; next = run_end Plain s at })) None

unfoldable pub word_at : Bytes → ℕ → Word
word_at s at = record { code = word_code (run plain (drop at s)); next = run_end Plain s at }

-- the word at a place, whose letters are bytes
pub record WordAt (s : Bytes) (at : ℕ) (r : Word) : Type 0 where
  pub is : r ≡ word_at s at
  pub narrow : T (every octet (run plain (drop at s)))

-- the one of some words that has a code
unfoldable pub coded : {H : Type 0} → (H → Bytes) → List H → ℕ → Option H
coded word [] c = none
coded word (h ∷ hs) c = cond (eqb (code_of (word h)) c) (some h) (coded word hs c)

-- ---- heads of conditions

unfoldable pub op_number : Op → ℕ
op_number eq = 1
op_number ne = 2
op_number lt = 3
op_number le = 4
op_number gt = 5
op_number ge = 6

unfoldable pub head_number : Head → ℕ
head_number (compare o) = op_number o
head_number and = 7
head_number or = 8
head_number not_of = 9

unfoldable pub head_given : ℕ → Found ℕ
head_given c = seen head_number (coded head_word heads c)

-- ---- rights

unfoldable pub right_given : ℕ → Found ℕ
right_given c = seen right_number (coded right_word rights c)

-- ---- first words of forms: an aggregate's is four and the number that rights have for it

unfoldable pub kind_number : Kind → ℕ
kind_number k_in = 0
kind_number k_pick = 1
kind_number k_keep = 2
kind_number k_join = 3
kind_number (k_fn f) = 4 + fn_number f

unfoldable pub form_given : ℕ → Found ℕ
form_given c = seen kind_number (coded kind_word kinds c)

-- ---- brackets and words at a place

-- where an opening bracket and the word of a code end
unfoldable pub opening_end : Bytes → ℕ → ℕ → Found ℕ
opening_end s at c = cond (eqb c 0) None (read_end s (read_open (name_of c) (drop at s)))

-- the same after a space
unfoldable pub part_end : Bytes → ℕ → ℕ → Found ℕ
part_end s at c = option_and_then (λ p. opening_end s p c) (read_end s (byte 32 (drop at s)))

-- a closing bracket, and nothing after it
unfoldable pub closes_at : Bytes → ℕ → Bool
closes_at s at = same_list (41 ∷ []) (drop at s)

-- where the first word of a line of a verb ends
unfoldable pub line_after : Bytes → ℕ → Result ℕ Unread
line_after s verb = cond (ltb max_line (length s)) (Err TooLong) (ok_or (opening_end s 0 verb) Malformed)

unfoldable pub too_long : Unread → Bool
too_long TooLong = true
too_long Malformed = false

-- To unfold this is to unfold every definition above, and those of the readers.
unfoldable pub keywords_compute : Unit {0}
unfolding readers_compute short code_from code_of bytes_from name_of word_code octet keyword? coded seen op_number head_number head_given right_number right_given fn_number kind_number form_given
keywords_compute = tt
