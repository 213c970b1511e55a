-- `forms_at`: what is read so far, joined to what is still to be read, is what is read from the first place on.
use Prim.Native.Nat.{◌-◌}
use lib.ListN.{length}
use Rattle.query_read.proofs.Answering.{Walked}
use Rattle.query_read.proofs.forms_at.Given as goal

abbrev pub invariant-loop-p : goal.invariant-loop-p
invariant-loop-p l = Walked l.names l.s l.at l.initial.words l.words l.second l.nest l.p l.r

abbrev pub decreases-loop-p : goal.decreases-loop-p
decreases-loop-p l = length l.s - l.p
