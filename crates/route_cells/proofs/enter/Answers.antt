use native.Mathlib.Omega.{arith}
use Rattle.sides.proofs.Masks.{left_of_stream, right_of_stream}
use Rattle.route_cells.proofs.Routes.{left_ready, left_kept, rows_ready, bound_ready, route_bounded, after_ready, route_counted, header_ready, header_fits, rows_fit, route_fits, route_written}
use Rattle.route_cells.proofs.enter.Goals as goal

pub left_rows-lefts-requires : goal.left_rows-lefts-requires
left_rows-lefts-requires c = left_ready _ _ _ _ _ _ _ _ _ c.args.cells.now c.requires.0 c.plan-p.ensures c.scope-left.ensures c.requires.1

pub overflow_add-aim : goal.overflow_add-aim
overflow_add-aim c = let a = c.requires.0.from in let b = c.requires.0.near in record { fits = omega arith }

pub bound-requires : goal.bound-requires
bound-requires c = bound_ready _ _ _ _ _ _ _ _ _ c.args.cells.now c.requires.0 c.plan-p.ensures c.width-w.ensures

pub shape_of-kept-then-end-turn : goal.shape_of-kept-then-end-turn
shape_of-kept-then-end-turn c = c.left_rows-lefts.ensures.1.size

pub returns-then-end-turn : goal.returns-then-end-turn
returns-then-end-turn c = let a = left_of_stream _ _ _ c.scope-left.ensures c.left_rows-lefts.ensures.0 in let b = right_of_stream _ _ _ _ c.right_scope-right.ensures c.right-rights.ensures in (route_bounded _ _ _ _ _ _ _ _ _ _ c.requires.0 c.plan-p.ensures c.width-w.ensures a b (c.bound.ensures c.in-Some.end c.in-Some.is) c.if-end-turn.true c.if-turn.true, left_kept _ _ _ _ _ _ _ _ _ c.args.cells.now c.requires.0 c.plan-p.ensures a c.left_rows-lefts.ensures.1)

pub rows-n-requires : goal.rows-n-requires
rows-n-requires c = let a = left_of_stream _ _ _ c.scope-left.ensures c.left_rows-lefts.ensures.0 in let b = right_of_stream _ _ _ _ c.right_scope-right.ensures c.right-rights.ensures in let x = rows_ready _ _ _ _ _ _ _ _ _ c.args.cells.now c.requires.0 c.plan-p.ensures a b in (x.0, x.1, c.width-w.ensures)

pub after-requires : goal.after-requires
after-requires c = after_ready _ _ _ _ _ _ _ _ _ _ c.requires.0 c.plan-p.ensures c.width-w.ensures c.rows-n.ensures

pub shape_of-kept-then-not-turn : goal.shape_of-kept-then-not-turn
shape_of-kept-then-not-turn c = c.left_rows-lefts.ensures.1.size

pub returns-then-not-turn : goal.returns-then-not-turn
returns-then-not-turn c = (route_counted _ _ _ _ _ _ _ _ _ _ c.requires.0 c.plan-p.ensures c.width-w.ensures c.rows-n.ensures c.if-not-turn.true c.after.ensures, left_kept _ _ _ _ _ _ _ _ _ c.args.cells.now c.requires.0 c.plan-p.ensures (left_of_stream _ _ _ c.scope-left.ensures c.left_rows-lefts.ensures.0) c.left_rows-lefts.ensures.1)

pub put_header-requires : goal.put_header-requires
put_header-requires c = header_ready _ _ _ _ _ _ _ _ _ _ c.requires.0 c.plan-p.ensures c.width-w.ensures c.rows-n.ensures c.if-not-turn.false

pub overflow_add-result : goal.overflow_add-result
overflow_add-result c = header_fits _ _ _ _ _ _ _ _ _ _ c.requires.0 c.plan-p.ensures c.width-w.ensures c.rows-n.ensures c.if-not-turn.false

pub overflow_mul-result : goal.overflow_mul-result
overflow_mul-result c = rows_fit _ _ _ _ _ _ _ _ _ _ c.requires.0 c.plan-p.ensures c.width-w.ensures c.rows-n.ensures c.if-not-turn.false

pub overflow_add-result-2 : goal.overflow_add-result-2
overflow_add-result-2 c = route_fits _ _ _ _ _ _ _ _ _ _ c.requires.0 c.plan-p.ensures c.width-w.ensures c.rows-n.ensures c.if-not-turn.false

pub shape_of-kept : goal.shape_of-kept
shape_of-kept c = c.left_rows-lefts.ensures.1.size

pub returns : goal.returns
returns c = (route_written _ _ _ _ _ _ _ _ _ _ c.requires.0 c.plan-p.ensures c.width-w.ensures c.rows-n.ensures c.if-not-turn.false c.put_header.ensures, left_kept _ _ _ _ _ _ _ _ _ c.args.cells.now c.requires.0 c.plan-p.ensures (left_of_stream _ _ _ c.scope-left.ensures c.left_rows-lefts.ensures.0) c.left_rows-lefts.ensures.1)
