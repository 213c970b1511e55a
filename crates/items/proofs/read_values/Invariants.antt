-- `read_values`: what is read so far, joined to what is read on, is what is read from the first place on.
use mathlib.Core.Path.{◌≡◌}
use Prim.Native.Nat.{◌-◌}
use lib.ListN.{length}
use Rattle.items.specs.Items.{values_found}
use Rattle.items.proofs.ValueLists.{values_on}
use Rattle.items.proofs.read_values.Given as goal

abbrev pub invariant-loop-r : goal.invariant-loop-r
invariant-loop-r l = values_found l.s l.at ≡ values_on l.s l.r l.i

abbrev pub decreases-loop-r : goal.decreases-loop-r
decreases-loop-r l = length l.s - l.i
