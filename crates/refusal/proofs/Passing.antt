-- What it means that no check of a table fails.
use mathlib.Core.Path.{◌≡◌, refl, sym}
use mathlib.Core.List.{List, [], ◌∷◌, ◌++◌}
use mathlib.Core.Bool.{Bool, true, false, ◌||◌, not, cond}
use mathlib.Core.Option.{none, some, none-ne-some}
use lib.Dec.{T}
use Rattle.lists.proofs.Laws.{not_not}
use Rattle.refusal.specs.declared.Refusal.{Refusal}
use Rattle.refusal.specs.Checks.{Check, refuse, first, passes}

-- the first check of a table holds off, and so do the rest
pub pass_first : (r : Refusal) (b : Bool) (cs : List Check) → T (passes (refuse r b ∷ cs)) → T (not b)
unfolding passes refuse
pass_first r true cs t = absurd t
pass_first r false cs t = tt

pub pass_rest : (r : Refusal) (b : Bool) (cs : List Check) → T (passes (refuse r b ∷ cs)) → T (passes cs)
unfolding passes refuse
pass_rest r true cs t = absurd t
pass_rest r false cs t = t

-- the same where the condition is that a test fails
pub pass_test : (r : Refusal) (b : Bool) (cs : List Check) → T (passes (refuse r (not b) ∷ cs)) → T b
pass_test r b cs t = not_not b (pass_first r (not b) cs t)

-- a check that holds off, in front of checks that do
pub pass_put : (r : Refusal) (b : Bool) (cs : List Check) → T b → T (passes cs) → T (passes (refuse r (not b) ∷ cs))
unfolding passes refuse
pass_put r true cs t u = u
pass_put r false cs t u = absurd t

-- both at once
pub pass : (r : Refusal) (b : Bool) (cs : List Check) → T (passes (refuse r (not b) ∷ cs)) → T b × T (passes cs)
pass r b cs t = (pass_test r b cs t, pass_rest r (not b) cs t)

-- a table passes where it gives no refusal
pub passes_first : (cs : List Check) → first cs ≡ none → T (passes cs)
unfolding passes first
passes_first [] e = tt
passes_first (c ∷ cs) e = go c.fails e (passes_first cs)
  where
    go : (b : Bool) → cond b (some c.refusal) (first cs) ≡ none → (first cs ≡ none → T (passes cs)) → T (cond b false (passes cs))
    go true e f = absurd (none-ne-some c.refusal (sym e))
    go false e f = f e

pub first_passes : (cs : List Check) → T (passes cs) → first cs ≡ none
unfolding passes first
first_passes [] t = refl
first_passes (c ∷ cs) t = go c.fails t (first_passes cs)
  where
    go : (b : Bool) → T (cond b false (passes cs)) → (T (passes cs) → first cs ≡ none) → cond b (some c.refusal) (first cs) ≡ none
    go true t f = absurd t
    go false t f = f t

-- a check that holds off counts for nothing
pub first_skip : (r : Refusal) (b : Bool) (cs : List Check) → T b → first (refuse r (not b) ∷ cs) ≡ first cs
unfolding first refuse
first_skip r true cs t = refl
first_skip r false cs t = absurd t

-- the front of a table that passes
pub passes_left : (cs ds : List Check) → T (passes (cs ++ ds)) → T (passes cs)
unfolding passes
passes_left [] ds t = tt
passes_left (c ∷ cs) ds t = go c.fails t (passes_left cs ds)
  where
    go : (b : Bool) → T (cond b false (passes (cs ++ ds))) → (T (passes (cs ++ ds)) → T (passes cs)) → T (cond b false (passes cs))
    go true t k = absurd t
    go false t k = k t

-- two checks for one refusal, one after the other, are one check
pub first_both : (r : Refusal) (a b : Bool) (cs : List Check) → first (refuse r a ∷ (refuse r b ∷ cs)) ≡ first (refuse r (a || b) ∷ cs)
unfolding first refuse
first_both r true b cs = refl
first_both r false b cs = refl

pub passes_both : (r : Refusal) (a b : Bool) (cs : List Check) → passes (refuse r a ∷ (refuse r b ∷ cs)) ≡ passes (refuse r (a || b) ∷ cs)
unfolding passes refuse
passes_both r true b cs = refl
passes_both r false b cs = refl
