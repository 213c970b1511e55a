-- `stream_order`: an order so far, with the columns that are left, is that of all columns.
use mathlib.Core.Path.{◌≡◌}
use Prim.Native.Nat.{◌≤◌}
use Rattle.plan.specs.Plans.{stream_order}
use Rattle.plan.proofs.Steps.{order_on}
use Rattle.plan.proofs.stream_order.Given as goal

abbrev pub invariant-loop-c : goal.invariant-loop-c
invariant-loop-c l = (l.n ≤ 6) × (stream_order l.names l.s ≡ order_on l.s l.m l.c l.n)
