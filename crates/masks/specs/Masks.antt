-- Columns as bits of an unsigned mask.
use Rattle.std.specs.Prelude.{List, [], ◌∷◌, Bool, cond, ℕ, ◌/◌, ◌%◌, ◌^◌, ltb, eqb}
use Rattle.std.specs.Int.Bits.{bit_and, bit_or}

-- whether bit i is set
abbrev pub bit? : ℕ → ℕ → Bool
bit? m i = eqb (m / 2 ^ i % 2) 1

-- a mask of 32 bits with one more; beyond them it is as it was
unfoldable pub with_bit : ℕ → ℕ → ℕ
with_bit m i = cond (ltb i 32) (bit_or m (2 ^ i)) m

-- the mask of some bits
unfoldable pub mask_of : List ℕ → ℕ
mask_of [] = 0
mask_of (i ∷ is) = bit_or (2 ^ i) (mask_of is)

-- every bit of one mask is set in another
abbrev pub inside : ℕ → ℕ → Bool
inside m n = eqb (bit_and m n) m
