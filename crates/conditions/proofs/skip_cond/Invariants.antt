use Prim.Native.Nat.{◌-◌}
use lib.ListN.{length}
use Rattle.conditions.proofs.Skipping.{Skips}
use Rattle.conditions.proofs.skip_cond.Given as goal

abbrev pub invariant-loop-p : goal.invariant-loop-p
invariant-loop-p l = Skips l.s l.at l.single l.nest l.p

abbrev pub decreases-loop-p : goal.decreases-loop-p
decreases-loop-p l = length l.s - l.p
