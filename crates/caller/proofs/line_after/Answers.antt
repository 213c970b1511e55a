-- `line_after`: by its roles, its entries and where they end.
use mathlib.Core.Path.{◌∙◌}
use Rattle.caller.proofs.LineRead.{line_roleless, line_unnamed, line_unended, line_profileless, line_unclosed, line_whole}
use Rattle.caller.proofs.line_after.Goals as goal

pub returns-in_err-part : goal.returns-in_err-part
returns-in_err-part c = c.from_residual.ensures ∙ line_roleless _ _ c.in_err-part.ensures

pub returns-in_err-rs : goal.returns-in_err-rs
returns-in_err-rs c = c.from_residual-in_err-rs.ensures ∙ line_unnamed _ _ c.in_ok-part.ensures c.in_err-rs.ensures

pub returns-in_err-skip : goal.returns-in_err-skip
returns-in_err-skip c = c.from_residual-in_err-skip.ensures ∙ line_unended _ _ c.in_ok-part.ensures c.in_ok-rs.ensures c.in_err-skip.ensures

pub returns-in_err-es : goal.returns-in_err-es
returns-in_err-es c = c.from_residual-in_err-es.ensures ∙ line_profileless _ _ c.in_ok-part.ensures c.in_ok-rs.ensures c.in_ok-skip.ensures c.in_err-es.ensures

pub returns-then-not-closes_at : goal.returns-then-not-closes_at
returns-then-not-closes_at c = line_unclosed _ _ c.in_ok-part.ensures c.in_ok-rs.ensures c.in_ok-skip.ensures c.in_ok-es.ensures c.closes_at.ensures c.if-not-closes_at.true

pub returns : goal.returns
returns c = line_whole _ _ c.in_ok-part.ensures c.in_ok-rs.ensures c.in_ok-skip.ensures c.in_ok-es.ensures c.closes_at.ensures c.if-not-closes_at.false c.line_of.ensures
