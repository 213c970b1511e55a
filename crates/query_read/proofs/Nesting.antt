-- The brackets that close after a form: the ends of the code that passes them.
use mathlib.Core.Path.{◌≡◌, sym, ap, ◌∙◌}
use mathlib.Core.List.{List}
use mathlib.Core.Bool.{Bool, true, false, cond}
use Prim.Native.Nat.{ℕ, suc, ◌+◌, ◌-◌, ◌≤◌, ◌<◌}
use native.Mathlib.Omega.{arith}
use lib.Dec.{eqb}
use lib.ListN.{get_or}
use borrow.Author.Tests.{eq-eqb, ne_eqb}
use Rattle.syntax.specs.Grammar.{Bytes}
use Rattle.text.specs.Words.{Some, None}
use Rattle.query_read.specs.declared.Next.TheVariants.{Ended, Inside}
use Rattle.query_read.specs.Steps.{after_form}

module _ (s : Bytes) (second : List Bool) (at nest p n : ℕ) (inv : after_form s second at nest ≡ after_form s second p n) where
  pub after_done : n ≤ 0 → Some (Ended p) ≡ after_form s second at nest
  unfolding after_form
  after_done h = let z : n ≡ 0 = omega arith in sym (inv ∙ rw z)

  module _ (h : 0 < n) {b : ℕ} (e : b ≡ get_or s p 0) {v : Bool} (w : v ≡ get_or second (n - 1) false) where
    step : after_form s second p n ≡ cond v (cond (eqb b 32) (Some (Inside (p + 1) n)) None) (cond (eqb b 41) (after_form s second (p + 1) (n - 1)) None)
    unfolding after_form
    step = let z : n ≡ suc (n - 1) = omega arith in ap (λ m. after_form s second p m) z ∙ rw (← e, ← w, ← z)

    module _ (t : v ≡ true) where
      pub after_unspaced : (b ≡ 32 → ⊥) → None ≡ after_form s second at nest
      after_unspaced f = sym (inv ∙ step ∙ rw (t, ne_eqb b 32 f))

      pub after_next : b ≡ 32 → Some (Inside (p + 1) n) ≡ after_form s second at nest
      after_next f = sym (inv ∙ step ∙ rw (t, eq-eqb b 32 f))

    module _ (t : v ≡ false) where
      pub after_unclosed : (b ≡ 41 → ⊥) → None ≡ after_form s second at nest
      after_unclosed f = sym (inv ∙ step ∙ rw (t, ne_eqb b 41 f))

      pub after_again : b ≡ 41 → after_form s second at nest ≡ after_form s second (p + 1) (n - 1)
      after_again f = inv ∙ step ∙ rw (t, eq-eqb b 41 f)

pub ruleset after_ends = (after_done, after_unspaced, after_next, after_unclosed, after_again)
