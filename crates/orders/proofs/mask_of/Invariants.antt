-- `mask_of`: the bits of the columns passed from the end, and those of the rest.
use mathlib.Core.Path.{◌≡◌}
use lib.Bits.{bit_or}
use Rattle.masks.specs.Masks.{mask_of}
use Rattle.orders.specs.Orders.{codes_in}
use Rattle.orders.proofs.Turns.{left}
use Rattle.orders.proofs.mask_of.Given as goal

abbrev pub invariant-loop-n : goal.invariant-loop-n
invariant-loop-n l = (mask_of (codes_in l.order) ≡ bit_or (mask_of (left l.m l._n)) l.mask)
