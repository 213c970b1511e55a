use Rattle.selection.specs.Evaluating.{Carried}
use Rattle.selection.proofs.leaves.Given as goal

abbrev pub invariant-loop-at : goal.invariant-loop-at
invariant-loop-at l = Carried l.words l.stop l.j l.any l.sc l.times l.values l.profile l.initial.m l.at l.m

abbrev pub decreases-loop-at : goal.decreases-loop-at
decreases-loop-at l = l.at
