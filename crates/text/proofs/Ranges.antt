-- What is kept of a number: a value of 32 bits, or a time.
use mathlib.Core.Path.{◌≡◌, refl}
use mathlib.Core.Bool.{Bool, true, false, cond}
use Prim.Native.Nat.{ℕ, ◌<◌}
use native.Mathlib.Omega.{arith}
use lib.IntN.{ℤ, pos, negsuc, nat_abs}
use lib.Signed.{lt_z, non_neg}
use lib.Dec.{T}
use mir.Syntax.{w32, w64}
use mir.Val.{Fits, SFits, to_z, of_z}
use mir.ValLaws.{to_z-of_z}
use borrow.Author.Rules.{sfits_of}
use borrow.Author.Tests.{le-leb, lt-leb, ltb-true, ltb-false}
use Rattle.syntax.specs.Limits.{is_value, is_time, natural}
use Rattle.text.specs.Words.{Found, Some, None, clamp, value_given, time_given}
use Rattle.text.proofs.Clamps.{clamp_value, clamp_time, value_same, time_same}

-- ---- clamping changes nothing that is kept

pub value_clamp : (z : ℤ) → value_given (clamp z) ≡ value_given z
unfolding value_given
value_clamp z = rw (clamp_value z) (go (is_value z) refl)
  where
    go : (b : Bool) → is_value z ≡ b → ◌≡◌ {A = Found ℤ} (cond b (Some (clamp z)) None) (cond b (Some z) None)
    go true e = rw (value_same z (rw e tt))
    go false e = refl

pub given_clamp : (z : ℤ) → time_given (clamp z) ≡ time_given z
unfolding time_given
given_clamp z = rw (clamp_time z) (go (is_time z) refl)
  where
    go : (b : Bool) → is_time z ≡ b → ◌≡◌ {A = Found ℕ} (cond b (Some (natural (clamp z))) None) (cond b (Some (natural z)) None)
    go true e = rw (time_same z (rw e tt))
    go false e = refl

-- ---- values

value_low : (z : ℤ) → lt_z z (negsuc 2147483647) ≡ true → is_value z ≡ false
unfolding is_value
value_low (pos n) e = absurd (let k : ◌≡◌ {A = ℕ} 0 1 = cc in omega arith)
value_low (negsuc n) e = lt-leb n 2147483647 (ltb-true 2147483647 n e)

value_high : (z : ℤ) → lt_z (pos 2147483647) z ≡ true → is_value z ≡ false
unfolding is_value
value_high (pos n) e = lt-leb n 2147483647 (ltb-true 2147483647 n e)
value_high (negsuc n) e = absurd (let k : ◌≡◌ {A = ℕ} 0 1 = cc in omega arith)

value_near : (z : ℤ) → lt_z z (negsuc 2147483647) ≡ false → lt_z (pos 2147483647) z ≡ false → (is_value z ≡ true) × SFits w32 z
unfolding is_value
value_near (pos n) e f = let h = ltb-false 2147483647 n f in (le-leb n 2147483647 h, record { sfits = omega arith })
value_near (negsuc n) e f = let h = ltb-false 2147483647 n e in (le-leb n 2147483647 h, record { sfits = omega arith })

-- the bits of a number, read as a signed number, are the number
module _ (z : ℤ) (fits : SFits w64 z) where
  back : to_z w64 (of_z w64 z) ≡ z
  back = to_z-of_z w64 z fits

  pub kept_low : lt_z (to_z w64 (of_z w64 z)) (negsuc 2147483647) ≡ true → None ≡ value_given z
  unfolding value_given
  kept_low e = rw (value_low z (rw back at e))

  pub kept_high : lt_z (pos 2147483647) (to_z w64 (of_z w64 z)) ≡ true → None ≡ value_given z
  unfolding value_given
  kept_high e = rw (value_high z (rw back at e))

  module _ (e : lt_z (to_z w64 (of_z w64 z)) (negsuc 2147483647) ≡ false) (f : lt_z (pos 2147483647) (to_z w64 (of_z w64 z)) ≡ false) where
    pub kept_fits : SFits w32 (to_z w64 (of_z w64 z))
    kept_fits = (value_near (to_z w64 (of_z w64 z)) e f).1

    pub kept_near : Some (to_z w32 (of_z w32 (to_z w64 (of_z w64 z)))) ≡ value_given z
    unfolding value_given
    kept_near = rw (to_z-of_z w32 (to_z w64 (of_z w64 z)) kept_fits, back, (value_near z (rw back at e) (rw back at f)).0)

pub ruleset kept_ends = (kept_low, kept_high, kept_fits, kept_near, sfits_of)

-- ---- times

time_low : (z : ℤ) → lt_z z (pos 0) ≡ true → is_time z ≡ false
unfolding is_time
time_low (pos n) e = absurd (let h = ltb-true n 0 e in omega arith)
time_low (negsuc n) e = refl

time_high : (z : ℤ) → lt_z (pos 2147483647) z ≡ true → is_time z ≡ false
unfolding is_time
time_high (pos n) e = lt-leb n 2147483647 (ltb-true 2147483647 n e)
time_high (negsuc n) e = refl

time_near : (z : ℤ) → lt_z z (pos 0) ≡ false → lt_z (pos 2147483647) z ≡ false → (is_time z ≡ true) × (nat_abs z ≡ natural z) × (nat_abs z < 4294967296) × T (non_neg z)
unfolding is_time natural
time_near (pos n) e f = let h = ltb-false 2147483647 n f in (le-leb n 2147483647 h, refl, omega arith, tt)
time_near (negsuc n) e f = absurd (let k : ◌≡◌ {A = ℕ} 0 1 = cc in omega arith)

module _ (z : ℤ) (fits : SFits w64 z) where
  pub time_below : lt_z (to_z w64 (of_z w64 z)) (pos 0) ≡ true → None ≡ time_given z
  unfolding time_given
  time_below e = rw (time_low z (rw (back z fits) at e))

  pub time_above : lt_z (pos 2147483647) (to_z w64 (of_z w64 z)) ≡ true → None ≡ time_given z
  unfolding time_given
  time_above e = rw (time_high z (rw (back z fits) at e))

  module _ (e : lt_z (to_z w64 (of_z w64 z)) (pos 0) ≡ false) (f : lt_z (pos 2147483647) (to_z w64 (of_z w64 z)) ≡ false) where
    pub time_natural : T (non_neg (to_z w64 (of_z w64 z)))
    time_natural = (time_near (to_z w64 (of_z w64 z)) e f).3

    pub time_fits : Fits w32 (nat_abs (to_z w64 (of_z w64 z)))
    time_fits = let h = (time_near (to_z w64 (of_z w64 z)) e f).2 in record { fits = omega arith }

    pub time_here : Some (nat_abs (to_z w64 (of_z w64 z))) ≡ time_given z
    unfolding time_given
    time_here = let h = time_near z (rw (back z fits) at e) (rw (back z fits) at f) in rw (back z fits, h.0, h.1)

pub ruleset time_ends = (time_below, time_above, time_natural, time_fits, time_here, sfits_of)
