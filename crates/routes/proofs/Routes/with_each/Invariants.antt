-- `with_each`: a walk through the places of the mask.
use mathlib.Core.Path.{◌≡◌}
use mathlib.Core.List.{[], ◌∷◌}
use Prim.Native.Nat.{ℕ, ◌+◌, ◌-◌, ◌≤◌, ◌<◌}
use Rattle.lists.specs.Lists.{select}
use Rattle.rows.specs.Masks.{At}
use Rattle.routes.specs.declared.Route.{Route}
use Rattle.routes.specs.Listing.{leaves_some}
use Rattle.routes.proofs.Listed.{Walk}
use Rattle.routes.proofs.Routes.with_each.Given as goal

abbrev pub invariant-loop-i : goal.invariant-loop-i
invariant-loop-i g l =
    At l.m l.i × ((f : ℕ → Route) → ((i : ℕ) (x : Route) → i < 32 → goal.F-post g l.route i x → x ≡ f i) → Walk (λ k. select (leaves_some l.g l.shown) (f k ∷ [])) l.m l.initial.r l.r l.i) × (l.r.count ≤ l.initial.r.count + l.i)

abbrev pub decreases-loop-i : goal.decreases-loop-i
decreases-loop-i g l = 32 - l.i
