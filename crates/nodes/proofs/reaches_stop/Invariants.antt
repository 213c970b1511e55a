use mathlib.Core.Path.{◌≡◌}
use Prim.Native.Nat.{suc}
use Rattle.nodes.specs.Nodes.{reaches}
use Rattle.nodes.proofs.reaches_stop.Given as goal

abbrev pub invariant-loop-at : goal.invariant-loop-at
invariant-loop-at l = reaches (suc l.j) l.words l.stop l.j ≡ reaches (suc l.at) l.words l.stop l.at

abbrev pub decreases-loop-at : goal.decreases-loop-at
decreases-loop-at l = l.at
