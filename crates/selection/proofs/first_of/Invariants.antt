use mathlib.Core.Path.{◌≡◌}
use Prim.Native.Nat.{◌<◌}
use Rattle.nodes.specs.Nodes.{link}
use Rattle.nodes.proofs.Links.{Walk}
use Rattle.selection.proofs.first_of.Given as goal

abbrev pub invariant-loop-b : goal.invariant-loop-b
invariant-loop-b l = Walk l.words l.stop l.j l.e × (l.b ≡ link l.words l.e) × (l.stop < l.j)

abbrev pub decreases-loop-b : goal.decreases-loop-b
decreases-loop-b l = l.b
