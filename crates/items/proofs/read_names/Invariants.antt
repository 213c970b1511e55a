-- `read_names`: what is read so far, joined to what is read on, is what is read from the first place on.
use mathlib.Core.Path.{◌≡◌}
use Prim.Native.Nat.{◌-◌}
use lib.ListN.{length}
use Rattle.items.specs.Items.{names_found}
use Rattle.items.proofs.NameLists.{names_on}
use Rattle.items.proofs.read_names.Given as goal

abbrev pub invariant-loop-r : goal.invariant-loop-r
invariant-loop-r l = names_found l.s l.at ≡ names_on l.s l.r l.i

abbrev pub decreases-loop-r : goal.decreases-loop-r
decreases-loop-r l = length l.s - l.i
