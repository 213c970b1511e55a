-- `streams_at`: what is read so far, joined to what is read on, is what is read from the first place on.
use mathlib.Core.Path.{◌≡◌}
use Prim.Native.Nat.{◌-◌}
use lib.ListN.{length}
use Rattle.columns.specs.Columns.{streams_at}
use Rattle.columns.proofs.StreamLists.{streams_on}
use Rattle.columns.proofs.streams_at.Given as goal

abbrev pub invariant-loop-i : goal.invariant-loop-i
invariant-loop-i l = streams_at l.names l.s l.at ≡ streams_on l.names l.s l.r l.seen l.i

abbrev pub decreases-loop-i : goal.decreases-loop-i
decreases-loop-i l = length l.s - l.i
