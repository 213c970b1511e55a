-- `group_name`: the numbers passed are not 0.
use mathlib.Core.Path.{◌≡◌}
use Prim.Native.Nat.{◌+◌, ◌-◌}
use Rattle.print.specs.Texts.{group_name}
use Rattle.print.proofs.group_name.Given as goal

abbrev pub invariant-loop-k : goal.invariant-loop-k
invariant-loop-k l = group_name l.names l.at l.i ≡ group_name l.names (l.at + l.k) (l.i - l.k)
