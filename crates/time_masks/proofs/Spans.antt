-- A time within two, and a weight by it.
use mathlib.Core.Path.{◌≡◌, refl, sym, ap, ◌∙◌}
use mathlib.Core.List.{List}
use mathlib.Core.Bool.{Bool, true, false, ◌||◌}
use Prim.Native.Nat.{ℕ, ◌*◌, ◌<◌, ◌≤◌}
use native.Mathlib.Omega.{arith}
use lib.Dec.{eqb}
use lib.ListN.{get_or}
use borrow.Author.Tests.{ne_eqb, le-leb, lt-leb}
use Rattle.rows.specs.Masks.{one}
use Rattle.time_masks.specs.Times.{in_span, timed}

-- ---- one time

module _ (t low high : ℕ) where
  pub time_early : t < low → 0 ≡ one (in_span low high t)
  unfolding in_span
  time_early h = rw (lt-leb low t h)

  pub time_late : low ≤ t → high < t → t < 4294967296 → 0 ≡ one (in_span low high t)
  unfolding in_span
  time_late h k l = rw (le-leb low t h, ne_eqb high 4294967295 (λ z. omega arith), lt-leb t high k)

  pub time_within : low ≤ t → t ≤ high → 1 ≡ one (in_span low high t)
  unfolding in_span
  time_within h k = rw (le-leb low t h, le-leb t high k) (ap one (sym (or_true (eqb high 4294967295))))
    where
      or_true : (b : Bool) → (b || true) ≡ true
      or_true true = refl
      or_true false = refl

-- and a weight by it
module _ (t low high w : ℕ) where
  no_weight : 0 ≡ 0 * w
  no_weight = omega arith

  all_weight : w ≡ 1 * w
  all_weight = omega arith

  pub weight_early : t < low → 0 ≡ one (in_span low high t) * w
  weight_early h = no_weight ∙ ap (λ (n : ℕ). n * w) (time_early t low high h)

  pub weight_late : low ≤ t → high < t → t < 4294967296 → 0 ≡ one (in_span low high t) * w
  weight_late h k l = no_weight ∙ ap (λ (n : ℕ). n * w) (time_late t low high h k l)

  pub weight_within : low ≤ t → t ≤ high → w ≡ one (in_span low high t) * w
  weight_within h k = all_weight ∙ ap (λ (n : ℕ). n * w) (time_within t low high h k)

pub time_read : (ts : List ℕ) (low high at w : ℕ) {b t : ℕ} → t ≡ get_or ts at 0 → b ≡ one (in_span low high t) * w → b ≡ one (timed ts low high at) * w
unfolding timed
time_read ts low high at w e f = f ∙ ap (λ (x : ℕ). one (in_span low high x) * w) e

pub ruleset time_ends = (weight_early, weight_late, weight_within)
