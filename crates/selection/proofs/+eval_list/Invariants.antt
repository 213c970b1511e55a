-- `eval` and `list`: a place falls from one to the other.
use Rattle.std.proofs.Common.{◌+◌, ◌*◌}
use Rattle.selection.specs.Evaluating.{Listed}
use Rattle.selection.proofs.+eval_list.Given as goal

abbrev pub decreases-eval : goal.decreases-eval
decreases-eval l = 2 * l.k

abbrev pub decreases-list : goal.decreases-list
decreases-list l = 2 * l.j + 1

abbrev pub invariant-list-loop-at : goal.invariant-list-loop-at
invariant-list-loop-at l = Listed l.words l.stop l.j l.any l.sc l.times l.values l.profile l.at l.m

abbrev pub decreases-list-loop-at : goal.decreases-list-loop-at
decreases-list-loop-at l = l.at
