-- `put_ends`: the brackets of the marks that are left are still to be written.
use mathlib.Core.Path.{◌≡◌}
use lib.ListN.{length}
use Rattle.print_query.proofs.Turns.{Closes}
use Rattle.print_query.proofs.put_ends.Given as goal

abbrev pub invariant-loop-left : goal.invariant-loop-left
invariant-loop-left l = Closes l.marks l.initial.out l.p l.left l.out l.q × (length l.out ≡ length l.initial.out)

abbrev pub decreases-loop-left : goal.decreases-loop-left
decreases-loop-left l = l.left
