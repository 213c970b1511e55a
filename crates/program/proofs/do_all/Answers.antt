use Rattle.std.proofs.Common.{◌∙◌, arith}
use Rattle.program.proofs.Whole.{rounds_start, rounds_more, rounds_end, rounds_over, wide, wide_line}
use Rattle.program.proofs.do_all.Goals as goal

pub rounds-init : goal.rounds-init
rounds-init g c = rounds_start _ c.requires.goes

pub returns-then-is_over : goal.returns-then-is_over
returns-then-is_over g c = rounds_over c.requires c.rounds.invariant c.is_over.ensures c.if-is_over.true

pub rounds-preserved : goal.rounds-preserved
rounds-preserved g c = rounds_more c.rounds.invariant c.do_some-r.ensures (wide c.requires.block (c.do_some-r.auto.block ∙ c.rounds.auto.block)) (wide_line c.requires.line c.rounds.auto.line)

pub returns : goal.returns
returns g c = rounds_end c.requires c.rounds.invariant (omega (arith, c.rounds.auto.counter-end, c.rounds-test.false))
