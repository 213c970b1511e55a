use Prim.Native.Nat.{◌+◌, ◌*◌}
use Rattle.nodes.proofs.Nesting.{Nests}
use Rattle.nodes.proofs.nests_well.Given as goal

abbrev pub invariant-loop-k : goal.invariant-loop-k
invariant-loop-k l = Nests l.words l.n l.around l.depth l.k

abbrev pub decreases-loop-k : goal.decreases-loop-k
decreases-loop-k l = 2 * l.k + l.depth
