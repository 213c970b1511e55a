-- `distinct`: the numbers passed stand once.
use mathlib.Core.Path.{◌≡◌}
use lib.Dec.{eqb}
use lib.ListN.{drop}
use Rattle.lists.specs.Lists.{distinct}
use Rattle.items.proofs.distinct.Given as goal

abbrev pub invariant-loop-i : goal.invariant-loop-i
invariant-loop-i l = distinct eqb l.codes ≡ distinct eqb (drop l.i l.codes)
