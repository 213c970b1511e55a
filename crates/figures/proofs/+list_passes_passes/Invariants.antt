-- A place falls from one to the other.
use Rattle.std.proofs.Common.{◌+◌, ◌*◌}
use Rattle.figures.proofs.Evaluating.{Listed}
use Rattle.figures.proofs.+list_passes_passes.Given as goal

abbrev pub decreases-list_passes : goal.decreases-list_passes
decreases-list_passes l = 2 * l.j + 1

abbrev pub decreases-passes : goal.decreases-passes
decreases-passes l = 2 * l.k

abbrev pub invariant-list_passes-loop-at : goal.invariant-list_passes-loop-at
invariant-list_passes-loop-at l = Listed l.words l.stop l.j l.any l.a l.at

abbrev pub decreases-list_passes-loop-at : goal.decreases-list_passes-loop-at
decreases-list_passes-loop-at l = l.at
