-- `code_at`: the columns from the first on, as long as the column is among them.
use Prim.Native.Nat.{◌+◌, ◌-◌}
use Rattle.orders.proofs.Turns.{Reaching}
use Rattle.orders.proofs.code_at.Given as goal

abbrev pub invariant-loop-k : goal.invariant-loop-k
invariant-loop-k l = Reaching l.order l.i l.m (l.n + (l.i + 1) - l._k)
