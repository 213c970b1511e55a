-- Columns in an order, as one number: five bits a column, its code and one, the last column lowest. There are at most twelve.
use Rattle.std.specs.Prelude.{List, [], ◌∷◌, cond, ℕ, zero, suc, ◌+◌, ◌*◌, ◌-◌, ◌/◌, ◌%◌, ltb, eqb}
use Rattle.lists.specs.Lists.{select}
use Rattle.syntax.specs.Limits.{max_streams, max_columns, max_granted}
use Rattle.masks.specs.Masks.{bit?}

-- columns of two streams: as many as an answer can have
abbrev pub max_order : ℕ
max_order = max_granted * max_columns

-- columns of all streams, whose codes are the numbers below
abbrev pub max_codes : ℕ
max_codes = max_streams * max_columns

-- one past the highest number of so many columns
abbrev pub order_end : ℕ
order_end = 1152921504606846976

-- the codes that a number stands for, in front of others; the first argument bounds how many they are
unfoldable pub codes_before : ℕ → ℕ → List ℕ → List ℕ
codes_before zero m cs = cs
codes_before (suc k) m cs = cond (eqb m 0) cs (codes_before k (m / 32) ((m % 32 - 1) ∷ cs))

unfoldable pub codes_in : ℕ → List ℕ
codes_in m = codes_before max_order m []

-- one column more at the end; as it was where there is no room, or no such code
unfoldable pub with_code : ℕ → ℕ → ℕ
with_code m c = cond (ltb (m * 32) order_end) (cond (ltb c 31) (m * 32 + (c + 1)) m) m

-- some more
unfoldable pub order_from : ℕ → List ℕ → ℕ
order_from m [] = m
order_from m (c ∷ cs) = order_from (with_code m c) cs

unfoldable pub order_of : List ℕ → ℕ
order_of cs = order_from 0 cs

-- those of a mask, in their order
unfoldable pub order_within : ℕ → ℕ → ℕ
order_within mask m = order_of (select (bit? mask) (codes_in m))
