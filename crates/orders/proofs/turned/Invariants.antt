-- `turned`: the order with the columns passed from the end, and those that are left.
use mathlib.Core.Path.{◌≡◌}
use mathlib.Core.List.{reverse}
use Rattle.orders.specs.Orders.{codes_in, order_from}
use Rattle.orders.proofs.Turns.{left}
use Rattle.orders.proofs.turned.Given as goal

abbrev pub invariant-loop-n : goal.invariant-loop-n
invariant-loop-n l = (order_from l.initial.m (reverse (codes_in l.b)) ≡ order_from l.m (reverse (left l.rest l._n)))
