use mathlib.Core.Path.{◌∙◌}
use Rattle.record_lines.proofs.Clocks.{clock_unspaced, clock_numberless, clock_unclosed, clock_whole}
use Rattle.record_lines.proofs.clock_after.Goals as goal

pub returns-in_err-skip : goal.returns-in_err-skip
returns-in_err-skip c = c.from_residual.ensures ∙ clock_unspaced _ _ c.in_err-skip.ensures

pub returns-in_err-n : goal.returns-in_err-n
returns-in_err-n c = c.from_residual-in_err-n.ensures ∙ clock_numberless _ _ c.in_ok-skip.ensures c.in_err-n.ensures

pub returns-then-not-closes_at : goal.returns-then-not-closes_at
returns-then-not-closes_at c = clock_unclosed _ _ c.in_ok-skip.ensures c.in_ok-n.ensures c.closes_at.ensures c.if-not-closes_at.true

pub returns : goal.returns
returns c = clock_whole _ _ c.in_ok-skip.ensures c.in_ok-n.ensures c.closes_at.ensures c.if-not-closes_at.false c.new.ensures c.time.ensures
