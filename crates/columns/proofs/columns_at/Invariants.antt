-- `columns_at`: what is read so far, joined to what is read on, is what is read from the first place on.
use mathlib.Core.Path.{◌≡◌}
use Prim.Native.Nat.{◌-◌}
use lib.ListN.{length, take}
use Rattle.columns.specs.Columns.{columns_at}
use Rattle.columns.proofs.ColumnLists.{columns_on}
use Rattle.columns.proofs.columns_at.Given as goal

abbrev pub invariant-loop-i : goal.invariant-loop-i
invariant-loop-i l = (length l.own ≡ 72) × (columns_at l.names l.form l.s l.at ≡ columns_on l.names l.form l.s l.r (take l.k l.own) l.i)

abbrev pub decreases-loop-i : goal.decreases-loop-i
decreases-loop-i l = length l.s - l.i
