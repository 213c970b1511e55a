-- An average is cut towards zero, as the machine's signed division is.
use mathlib.Core.Path.{◌≡◌, refl, sym}
use Prim.Native.Nat.{ℕ, zero, suc, ◌+◌, ◌*◌, ◌/◌, ◌≤◌, ◌<◌}
use native.Mathlib.Nat.{zero-div, div-mul-le_self, lt-div-mul-add}
use lib.IntN.{ℤ, pos, negsuc, neg_ℤ, neg_ℤ-neg_ℤ}
use lib.Signed.{quot_z}
use Rattle.model.specs.Aggregates.{average}

-- the same on both sides of zero
pub average_negative : (z : ℤ) (d : ℕ) → average (neg_ℤ z) d ≡ neg_ℤ (average z d)
unfolding average
average_negative (pos zero) d = rw (zero-div d)
average_negative (pos (suc n)) d = refl
average_negative (negsuc n) d = sym (neg_ℤ-neg_ℤ (pos (suc n / d)))

-- from zero up: the greatest number whose product with the count is not above the sum
pub average_cut : (n d : ℕ) → 1 ≤ d → (q : ℕ) × (average (pos n) d ≡ pos q) × (q * d ≤ n) × (n < q * d + d)
unfolding average
average_cut n d h = (n / d, refl, div-mul-le_self n d, lt-div-mul-add h)

pub average_quot : (z : ℤ) (d : ℕ) → average z d ≡ quot_z z (pos d)
unfolding average
average_quot (pos n) d = refl
average_quot (negsuc n) d = refl
