-- A bracket may be opened less often inside another.
use Rattle.std.proofs.Common.{length, ◌-◌, ◌+◌, ◌*◌}
use Rattle.conditions.proofs.Going.{Going}
use Rattle.conditions.proofs.+cond_in_conds_in.Given as goal

abbrev pub decreases-cond_in : goal.decreases-cond_in
decreases-cond_in l = 2 * l.level

abbrev pub decreases-conds_in : goal.decreases-conds_in
decreases-conds_in l = 2 * l.level + 1

abbrev pub invariant-conds_in-loop-r : goal.invariant-conds_in-loop-r
invariant-conds_in-loop-r l = Going l.names l.s l.b l.level l.at l.initial.words l.words l.r

abbrev pub decreases-conds_in-loop-r : goal.decreases-conds_in-loop-r
decreases-conds_in-loop-r l = length l.s - l.r.next
