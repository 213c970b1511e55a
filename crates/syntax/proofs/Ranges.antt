-- The ranges of numbers, by their lowest and their highest.
use mathlib.Core.Path.{◌≡◌, refl, sym, ap}
use mathlib.Core.Bool.{◌&&◌}
use native.Mathlib.Omega.{arith}
use lib.IntN.{ℤ, pos, negsuc}
use lib.Dec.{leb, le→leb}
use lib.Signed.{le_z}
use Rattle.lists.proofs.Laws.{and_true, T_true}
use Rattle.syntax.specs.Limits.{is_value, is_time, not_above}

-- column and profile values and numbers in conditions: from -2147483648 to 2147483647
pub value_range : (z : ℤ) → is_value z ≡ le_z (negsuc 2147483647) z && le_z z (pos 2147483647)
unfolding is_value
value_range (pos n) = refl
value_range (negsuc n) = sym (and_true (leb n 2147483647))

-- the clock, `from`, `to` and the numbers of `window`: from 0 to 2147483647
pub time_range : (z : ℤ) → is_time z ≡ le_z (pos 0) z && le_z z (pos 2147483647)
unfolding is_time
time_range (pos n) = ap (λ b. b && leb n 2147483647) (sym (T_true (leb 0 n) (le→leb 0 n (omega arith))))
time_range (negsuc n) = refl

-- SIZE and OFFSET: up to 2147483647
pub span_range : (z : ℤ) → not_above z ≡ le_z z (pos 2147483647)
unfolding not_above
span_range (pos n) = refl
span_range (negsuc n) = refl
