-- The rows of a stream as a mask of 128 bits, four words with the lowest first; the rows that pass a test; and a walk through those of a mask.
use Rattle.std.specs.Prelude.{◌≡◌, List, Bool, true, false, cond, ℕ, zero, suc, ◌+◌, ◌*◌, ◌-◌, min, ◌≤◌, ◌<◌, ltb}
use Rattle.std.specs.Int.Bits.{bit_and, bit_or, bit_xor}
use Rattle.std.specs.Int.Count.{ones}
use Rattle.lists.specs.Lists.{select, count_from, nth}
use Rattle.masks.specs.Masks.{bit?}
use Rattle.rows.specs.declared.Rows.{Rows}

abbrev pub one : Bool → ℕ
one b = cond b 1 0

-- n bits, the lowest first: those of the places from a on that pass a test
unfoldable pub bits : (ℕ → Bool) → ℕ → ℕ → ℕ
bits p a zero = 0
bits p a (suc n) = one (p a) + 2 * bits p (suc a) n

-- how many of n rows stand in the word that begins at a row
abbrev pub part : ℕ → ℕ → ℕ
part n from = min (n - from) 32

-- n rows, which stand from a place on
unfoldable pub rows_of : (ℕ → Bool) → ℕ → ℕ → Rows
rows_of p at n = record { a = bits p at (part n 0); b = bits p (at + 32) (part n 32); c = bits p (at + 64) (part n 64); d = bits p (at + 96) (part n 96) }

abbrev pub no_rows : Rows
no_rows = record { a = 0; b = 0; c = 0; d = 0 }

-- the first n rows
unfoldable pub first_rows : ℕ → Rows
first_rows n = rows_of (λ i. true) 0 n

abbrev pub both_of : Rows → Rows → Rows
both_of x y = record { a = bit_and x.a y.a; b = bit_and x.b y.b; c = bit_and x.c y.c; d = bit_and x.d y.d }

abbrev pub either_of : Rows → Rows → Rows
either_of x y = record { a = bit_or x.a y.a; b = bit_or x.b y.b; c = bit_or x.c y.c; d = bit_or x.d y.d }

-- those of one that are not in the other, where the other lies inside it
abbrev pub flip_of : Rows → Rows → Rows
flip_of x y = record { a = bit_xor x.a y.a; b = bit_xor x.b y.b; c = bit_xor x.c y.c; d = bit_xor x.d y.d }

-- whether a row is in a mask
unfoldable pub row_bit : Rows → ℕ → Bool
row_bit m i = cond (ltb i 32) (bit? m.a i) (cond (ltb i 64) (bit? m.b (i - 32)) (cond (ltb i 96) (bit? m.c (i - 64)) (bit? m.d (i - 96))))

-- how many are in it
abbrev pub ones_of : Rows → ℕ
ones_of m = ones m.a + ones m.b + (ones m.c + ones m.d)

-- the rows of a mask in order
unfoldable pub listed : Rows → List ℕ
listed m = select (row_bit m) (count_from 0 128)

-- ---- one set bit after the other

-- the set bits of a word from i on, and the first of them, or 32
unfoldable pub bits_from : ℕ → ℕ → List ℕ
bits_from w i = select (bit? w) (count_from i (32 - i))

unfoldable pub next_bit : ℕ → ℕ → ℕ
next_bit w i = nth 32 (bits_from w i) 0

-- r is the first bit from i on that is set, or 32
pub record Next (w i r : ℕ) : Type 0 where
  pub on : i ≤ r
  pub within : r ≤ 32
  pub passed : (j : ℕ) → i ≤ j → j < r → bit? w j ≡ false
  pub here : r < 32 → bit? w r ≡ true

-- bit i is set, or i is 32
pub record At (w i : ℕ) : Type 0 where
  pub within : i ≤ 32
  pub here : i < 32 → bit? w i ≡ true
