use native.Mathlib.Omega.{arith}
use Rattle.ledger.specs.Calls.{row_place}
use Rattle.ledger.proofs.Bounds.{count_le}
use Rattle.ledger.proofs.Ledger.store.Goals as goal

pub overflow_add-at : goal.overflow_add-at
overflow_add-at c = omega (arith, count_le c.args.self c.args.s, c.count.ensures)

pub offset_bounds-times-at : goal.offset_bounds-times-at
offset_bounds-times-at c = omega (arith, count_le c.args.self c.args.s, c.count.ensures)

pub bounds-times-at : goal.bounds-times-at
unfolding row_place
bounds-times-at c = omega arith

pub overflow_mul-at-2 : goal.overflow_mul-at-2
overflow_mul-at-2 c = omega (arith, count_le c.args.self c.args.s, c.count.ensures)

pub put-requires : goal.put-requires
unfolding row_place
put-requires c = omega arith

pub returns : goal.returns
unfolding row_place
returns c = record { stamped = rw c.count.ensures; put = rw (← c.count.ensures) c.put.ensures }
