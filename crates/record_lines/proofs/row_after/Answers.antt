use mathlib.Core.Path.{◌∙◌}
use Rattle.record_lines.proofs.Rows.{row_unspaced, row_nameless, row_listless, row_empty, row_unclosed, row_whole}
use Rattle.record_lines.proofs.row_after.Goals as goal

pub returns-in_err-skip : goal.returns-in_err-skip
returns-in_err-skip c = c.from_residual.ensures ∙ row_unspaced _ _ c.in_err-skip.ensures

pub returns-in_err-n : goal.returns-in_err-n
returns-in_err-n c = c.from_residual-in_err-n.ensures ∙ row_nameless _ _ c.in_ok-skip.ensures c.in_err-n.ensures

pub returns-in_err-vs : goal.returns-in_err-vs
returns-in_err-vs c = c.from_residual-in_err-vs.ensures ∙ row_listless _ _ c.in_ok-skip.ensures c.in_ok-n.ensures c.in_err-vs.ensures

pub returns-then-vs-eq0 : goal.returns-then-vs-eq0
returns-then-vs-eq0 c = row_empty _ _ c.in_ok-skip.ensures c.in_ok-n.ensures c.in_ok-vs.ensures c.if-vs-eq0.true

pub returns-then-not-closes_at : goal.returns-then-not-closes_at
returns-then-not-closes_at c = row_unclosed _ _ c.in_ok-skip.ensures c.in_ok-n.ensures c.in_ok-vs.ensures c.if-vs-eq0.false c.closes_at.ensures c.if-not-closes_at.true

pub returns : goal.returns
returns c = row_whole _ _ c.in_ok-skip.ensures c.in_ok-n.ensures c.in_ok-vs.ensures c.if-vs-eq0.false c.closes_at.ensures c.if-not-closes_at.false c.row_of.ensures
