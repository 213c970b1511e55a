-- `turned_within`: the order of the columns passed from the end that the mask has, and those that are left.
use mathlib.Core.Path.{◌≡◌}
use mathlib.Core.List.{reverse}
use Rattle.lists.specs.Lists.{select}
use Rattle.masks.specs.Masks.{bit?}
use Rattle.orders.specs.Orders.{codes_in, order_from, order_of}
use Rattle.orders.proofs.Turns.{left}
use Rattle.orders.proofs.turned_within.Given as goal

abbrev pub invariant-loop-n : goal.invariant-loop-n
invariant-loop-n l = (order_of (select (bit? l.mask) (reverse (codes_in l.order))) ≡ order_from l.m (select (bit? l.mask) (reverse (left l.rest l._n))))
