use Rattle.std.proofs.Common.{refl, ◌∙◌, arith}
use Rattle.lines.proofs.Advancing.{block_start, block_more, block_end}
use Rattle.lines.proofs.do_block.Goals as goal

pub loop-r-init : goal.loop-r-init
loop-r-init g c = (omega arith, refl, block_start c.args.block.now _ refl)

pub loop-r-smaller : goal.loop-r-smaller
loop-r-smaller g c = omega (arith, c.do_part-r.ensures.more c.loop-r-test.true, c.do_part-r.ensures.inside, c.loop-r-test.true)

pub loop-r-preserved : goal.loop-r-preserved
loop-r-preserved g c = let v = c.loop-r.invariant in (c.do_part-r.ensures.inside, c.do_part-r.ensures.reading ∙ v.1, block_more _ _ v.2 c.do_part-r.ensures c.loop-r-test.true)

pub returns : goal.returns
returns g c = let v = c.loop-r.invariant in record { reading = v.1; advances = block_end _ _ _ refl refl refl refl refl refl v.2 c.loop-r-test.false }
