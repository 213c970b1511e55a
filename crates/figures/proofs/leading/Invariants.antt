use mathlib.Core.Path.{◌≡◌}
use Rattle.nodes.specs.Nodes.{link}
use Rattle.nodes.proofs.Links.{Walk}
use Rattle.figures.proofs.leading.Given as goal

abbrev pub invariant-loop-b : goal.invariant-loop-b
invariant-loop-b l = Walk l.words l.stop l.j l.e × (l.b ≡ link l.words l.e)

abbrev pub decreases-loop-b : goal.decreases-loop-b
decreases-loop-b l = l.e
