use mathlib.Core.Path.{◌≡◌, refl, sym, ap, ◌∙◌}
use Prim.Native.Nat.{◌+◌}
use native.Mathlib.Omega.{arith}
use lib.ListN.{length}
use borrow.Author.Tests.{ne_eqb, le-leb, lt-leb}
use Rattle.ask.proofs.Loops.{keep_none, keep_ready, keep_more, count_ready, count_more, count_sure, count_start, count_past, count_end, sum_fits, product_fits}
use Rattle.ask.proofs.fits.Goals as goal

pub loop-i-init : goal.loop-i-init
loop-i-init c = let x = count_start _ _ _ c.requires.0 in (refl, x.0, x.1, keep_none _ _ _ c.requires.0 c.requires.1, refl)

pub shape_of-kept-then-task-at : goal.shape_of-kept-then-task-at
shape_of-kept-then-task-at c = c.loop-i.invariant.4

pub shape_of-cells-then-task-at : goal.shape_of-cells-then-task-at
shape_of-cells-then-task-at c = ap length c.loop-i.invariant.0

pub returns-then-task-at : goal.returns-then-task-at
returns-then-task-at c = (c.loop-i.invariant.0, sym (count_past _ _ _ c.requires.0 c.loop-i.i (c.loop-i.invariant.1 c.loop-i-test.true) c.if-task-at.true))

pub overflow_add-task : goal.overflow_add-task
overflow_add-task c = omega (arith, c.requires.0.limit)

pub overflow_mul-task : goal.overflow_mul-task
overflow_mul-task c = product_fits _ _ _ c.requires.0 c.loop-i.i

pub overflow_add-at : goal.overflow_add-at
overflow_add-at c = sum_fits _ _ _ c.requires.0 c.loop-i.i c.if-task-at.false

pub shape_of-kept-then-at-task : goal.shape_of-kept-then-at-task
shape_of-kept-then-at-task c = c.loop-i.invariant.4

pub shape_of-cells-then-at-task : goal.shape_of-cells-then-at-task
shape_of-cells-then-at-task c = ap length c.loop-i.invariant.0

pub returns-then-at-task : goal.returns-then-at-task
returns-then-at-task c = (c.loop-i.invariant.0, (sym (count_sure _ _ _ c.requires.0 c.loop-i-test.true refl refl (c.loop-i.invariant.1 c.loop-i-test.true) c.if-task-at.false c.if-at-task.true), c.loop-i.invariant.3))

pub overflow_add-i : goal.overflow_add-i
overflow_add-i c = omega (arith, c.loop-i-test.true, c.struct_known-1.given)

pub enter-at-requires : goal.enter-at-requires
enter-at-requires c = (count_ready _ _ _ c.requires.0 c.loop-i-test.true c.route.ensures c.of-y.ensures (c.loop-i.invariant.1 c.loop-i-test.true) c.if-task-at.false c.loop-i.cells (ap length c.loop-i.invariant.0), keep_ready _ _ _ c.requires.0 c.loop-i-test.true c.route.ensures c.of-y.ensures c.loop-i.invariant.3)

pub loop-i-preserved : goal.loop-i-preserved
loop-i-preserved c =
    let l = c.loop-i in
    let h = c.loop-i-test.true in
    let e = c.route.ensures in
    let f = c.of-y.ensures in
    let t = c.enter-at.ensures in
    let x = count_more _ _ _ c.requires.0 h e f (l.invariant.1 h) c.if-task-at.false t.0 (λ u. ne_eqb (l.i + 1) c.args.task.routes.count (λ z. omega arith)) in
    (x.0 ∙ l.invariant.0, x.1, x.2, keep_more _ _ _ c.requires.0 h e f l.invariant.3 t.1, t.1.size ∙ l.invariant.4)

pub shape_of-kept : goal.shape_of-kept
shape_of-kept c = c.loop-i.invariant.4

pub shape_of-cells : goal.shape_of-cells
shape_of-cells c = ap length c.loop-i.invariant.0

pub returns-then-at-task-2 : goal.returns-then-at-task-2
returns-then-at-task-2 c =
    let l = c.loop-i in
    let r = c.args.task in
    let e : l.i ≡ r.routes.count = omega arith in
    (l.invariant.0, (sym (count_end _ _ _ c.requires.0 l.i l.at c.loop-i-test.false (omega arith) l.invariant.2) ∙ le-leb l.at r.room c.if-at-task-2.true, rw e at l.invariant.3))

pub returns : goal.returns
returns c =
    let l = c.loop-i in
    let r = c.args.task in
    (l.invariant.0, sym (count_end _ _ _ c.requires.0 l.i l.at c.loop-i-test.false (omega arith) l.invariant.2) ∙ lt-leb l.at r.room c.if-at-task-2.false)
