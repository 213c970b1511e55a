-- `count`: the columns passed from the end and those that are left.
use mathlib.Core.Path.{◌≡◌}
use Prim.Native.Nat.{◌+◌}
use lib.ListN.{length}
use Rattle.orders.specs.Orders.{codes_in}
use Rattle.orders.proofs.Turns.{left}
use Rattle.orders.proofs.count.Given as goal

abbrev pub invariant-loop-n : goal.invariant-loop-n
invariant-loop-n l = (length (codes_in l.order) ≡ length (left l.m l.n) + l.n)
