-- `with_columns`: the shown columns passed are added, and the others are left.
use mathlib.Core.Path.{◌≡◌}
use Prim.Native.Nat.{◌≤◌}
use Rattle.lists.specs.Lists.{select}
use Rattle.masks.specs.Masks.{bit?}
use Rattle.orders.specs.Orders.{order_from}
use Rattle.rewrite.proofs.Turns.{codes_left, columns_shown}
use Rattle.rewrite.proofs.with_columns.Given as goal

abbrev pub invariant-loop-c : goal.invariant-loop-c
invariant-loop-c l = (l.n ≤ 6) × (columns_shown l.initial.m l.names l.s l.mask ≡ order_from l.m (select (bit? l.mask) (codes_left l.s l.c l.n)))
