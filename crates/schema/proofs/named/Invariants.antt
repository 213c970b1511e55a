-- `named`: the numbers passed are names that may be, and none stands twice.
use mathlib.Core.Path.{◌≡◌}
use Prim.Native.Nat.{◌-◌}
use Rattle.lists.specs.Lists.{every, count_from}
use Rattle.schema.specs.Schemas.{named_from}
use Rattle.schema.proofs.Places.{named_at}
use Rattle.schema.proofs.named.Given as goal

abbrev pub invariant-loop-i : goal.invariant-loop-i
invariant-loop-i l = (named_from l.names l.at l.n ≡ every (named_at l.names l.at) (count_from l.i (l.n - l.i)))
