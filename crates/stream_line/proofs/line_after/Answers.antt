-- `line_after`: by the line's names and its end.
use mathlib.Core.Path.{◌∙◌}
use Rattle.stream_line.proofs.Lines.{line_unspaced, line_nameless, line_listless, line_empty, line_unclosed, line_whole}
use Rattle.stream_line.proofs.line_after.Goals as goal

pub returns-in_err-skip : goal.returns-in_err-skip
returns-in_err-skip c = c.from_residual.ensures ∙ line_unspaced _ _ c.in_err-skip.ensures

pub returns-in_err-n : goal.returns-in_err-n
returns-in_err-n c = c.from_residual-in_err-n.ensures ∙ line_nameless _ _ c.in_ok-skip.ensures c.in_err-n.ensures

pub returns-in_err-cs : goal.returns-in_err-cs
returns-in_err-cs c = c.from_residual-in_err-cs.ensures ∙ line_listless _ _ c.in_ok-skip.ensures c.in_ok-n.ensures c.in_err-cs.ensures

pub returns-then-cs-eq0 : goal.returns-then-cs-eq0
returns-then-cs-eq0 c = line_empty _ _ c.in_ok-skip.ensures c.in_ok-n.ensures c.in_ok-cs.ensures c.if-cs-eq0.true

pub returns-then-not-closes_at : goal.returns-then-not-closes_at
returns-then-not-closes_at c = line_unclosed _ _ c.in_ok-skip.ensures c.in_ok-n.ensures c.in_ok-cs.ensures c.if-cs-eq0.false c.closes_at.ensures c.if-not-closes_at.true

pub returns : goal.returns
returns c = line_whole _ _ c.in_ok-skip.ensures c.in_ok-n.ensures c.in_ok-cs.ensures c.if-cs-eq0.false c.closes_at.ensures c.if-not-closes_at.false c.line_of.ensures
