-- `with_sides`: a walk through the places on the left.
use mathlib.Core.List.{map}
use Prim.Native.Nat.{◌+◌, ◌*◌, ◌-◌, ◌≤◌}
use Rattle.lists.specs.Lists.{select}
use Rattle.routes.specs.Listing.{side_route, leaves_some, right_sides}
use Rattle.routes.proofs.Listed.{Walk}
use Rattle.routes.proofs.Routes.with_sides.Given as goal

abbrev pub invariant-loop-i : goal.invariant-loop-i
invariant-loop-i l = Walk (λ k. select (leaves_some l.g l.shown) (map (side_route k) (right_sides l.g k))) l.g.left l.initial.r l.r l.i × (l.r.count ≤ l.initial.r.count + 32 * l.i)

abbrev pub decreases-loop-i : goal.decreases-loop-i
decreases-loop-i l = 32 - l.i
