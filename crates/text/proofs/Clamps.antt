-- Clamping: what the bounds tell apart stays told apart.
use mathlib.Core.Path.{◌≡◌, refl, ap}
use mathlib.Core.Bool.{Bool, true, false}
use Prim.Native.Nat.{ℕ, suc, ◌-◌, ◌≤◌, ◌<◌, min}
use native.Mathlib.Omega.{arith}
use lib.IntN.{ℤ, pos, negsuc, neg_ℤ, nat_abs}
use mir.Syntax.{w64}
use mir.Val.{SFits}
use lib.Dec.{T, leb, leb→le}
use borrow.Author.Tests.{le-leb, lt-leb, leb-true, leb-false}
use Rattle.syntax.specs.Limits.{top, is_value, is_time, not_above}
use Rattle.text.specs.Words.{far, clamp}

-- two tests of order that agree
leb_both : (a b c d : ℕ) → (a ≤ b → c ≤ d) → (b < a → d < c) → leb c d ≡ leb a b
leb_both a b c d f g = go (leb a b) refl
  where
    go : (x : Bool) → leb a b ≡ x → leb c d ≡ x
    go true e = le-leb c d (f (leb-true a b e))
    go false e = lt-leb c d (g (leb-false a b e))

-- a negative number, clamped
clamp_negative : (n : ℕ) → clamp (negsuc n) ≡ negsuc (min n (far - 1))
unfolding clamp far
clamp_negative n = let e : min (suc n) far ≡ suc (min n (far - 1)) = omega arith in ap (λ m. neg_ℤ (pos m)) e

pub clamp_fits : (z : ℤ) → SFits w64 (clamp z)
unfolding clamp far
clamp_fits (pos n) = record { sfits = omega arith }
clamp_fits (negsuc n) = rw (clamp_negative n) (record { sfits = omega arith })

-- what is above the range stays above it
top_kept : (n : ℕ) → leb (min n far) top ≡ leb n top
unfolding far
top_kept n = leb_both n top (min n far) top (λ h. omega arith) (λ h. omega arith)

top_kept_below : (n : ℕ) → leb (min n (far - 1)) top ≡ leb n top
unfolding far
top_kept_below n = leb_both n top (min n (far - 1)) top (λ h. omega arith) (λ h. omega arith)

pub clamp_value : (z : ℤ) → is_value (clamp z) ≡ is_value z
unfolding is_value clamp
clamp_value (pos n) = top_kept n
clamp_value (negsuc n) = rw (clamp_negative n) (top_kept_below n)

pub clamp_time : (z : ℤ) → is_time (clamp z) ≡ is_time z
unfolding is_time clamp
clamp_time (pos n) = top_kept n
clamp_time (negsuc n) = rw (clamp_negative n)

pub clamp_above : (z : ℤ) → not_above (clamp z) ≡ not_above z
unfolding not_above clamp
clamp_above (pos n) = top_kept n
clamp_above (negsuc n) = rw (clamp_negative n)

-- a number that is not far is kept
pub clamp_near : (z : ℤ) → nat_abs z ≤ far → clamp z ≡ z
unfolding clamp
clamp_near (pos n) h = let e : min n far ≡ n = omega arith in ap pos e
clamp_near (negsuc n) h = let e : min (suc n) far ≡ suc n = omega arith in ap (λ m. neg_ℤ (pos m)) e

pub value_same : (z : ℤ) → T (is_value z) → clamp z ≡ z
unfolding is_value far
value_same (pos n) t = let h = leb→le n top t in clamp_near (pos n) (omega arith)
value_same (negsuc n) t = let h = leb→le n top t in clamp_near (negsuc n) (omega arith)

pub time_same : (z : ℤ) → T (is_time z) → clamp z ≡ z
unfolding is_time far
time_same (pos n) t = let h = leb→le n top t in clamp_near (pos n) (omega arith)
time_same (negsuc n) t = absurd t

-- SIZE and OFFSET have no lower bound: they are kept where they are not below the clamp's own
pub above_same : (z : ℤ) → T (not_above z) → ((n : ℕ) → z ≡ negsuc n → n < far) → clamp z ≡ z
unfolding not_above far
above_same (pos n) t l = let h = leb→le n top t in clamp_near (pos n) (omega arith)
above_same (negsuc n) t l = let h = l n refl in clamp_near (negsuc n) (omega arith)
