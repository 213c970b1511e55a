use mathlib.Core.Path.{refl, ◌∙◌}
use native.Mathlib.Omega.{arith}
use Rattle.ask.proofs.Loops.{keep_known, keep_still, write_start, write_ready, write_more, write_long, write_kept, write_first, write_end}
use Rattle.ask.proofs.put_all.Goals as goal

pub loop-i-init : goal.loop-i-init
loop-i-init c = let x = write_start _ _ _ c.requires.0 _ in (x.0, x.1, c.requires.2, refl)

pub enter-at-requires : goal.enter-at-requires
enter-at-requires c = (write_ready _ _ _ c.requires.0 c.loop-i-test.true c.route.ensures c.of-y.ensures c.requires.1 c.loop-i.cells (write_long _ _ _ c.requires.0 _ c.loop-i.i c.loop-i.invariant.0) c.loop-i.invariant.1, keep_known _ _ _ c.requires.0 c.loop-i-test.true c.route.ensures c.of-y.ensures c.loop-i.invariant.2)

pub loop-i-preserved : goal.loop-i-preserved
loop-i-preserved c =
    let x = write_more _ _ _ c.requires.0 c.loop-i-test.true c.route.ensures c.of-y.ensures c.requires.1 _ c.loop-i.invariant.1 c.loop-i.invariant.0 c.enter-at.ensures.0 in
    (x.0, x.1, keep_still _ _ _ c.requires.0 c.loop-i-test.true c.route.ensures c.of-y.ensures c.loop-i.invariant.2 c.enter-at.ensures.1, c.enter-at.ensures.1.size ∙ c.loop-i.invariant.3)

pub put_number-requires : goal.put_number-requires
put_number-requires c = write_first _ _ _ c.requires.0 c.requires.1 (write_long _ _ _ c.requires.0 _ c.loop-i.i c.loop-i.invariant.0)

pub shape_of-kept : goal.shape_of-kept
shape_of-kept c = c.loop-i.invariant.3

pub shape_of-cells : goal.shape_of-cells
shape_of-cells c = write_kept _ _ _ c.requires.0 _ c.loop-i.i _ c.loop-i.invariant.0 c.put_number.ensures

pub returns : goal.returns
returns c = write_end _ _ _ c.requires.0 _ c.loop-i.i c.loop-i-test.false (omega arith) c.loop-i.invariant.0 c.loop-i.invariant.1 c.put_number.ensures
