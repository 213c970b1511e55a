-- `read_number`: by the minus, and what follows it.
use mathlib.Core.Path.{◌∙◌}
use Rattle.text.proofs.Numbers.{number_natural, number_none, number_zero, minus_fits, number_minus}
use Rattle.text.proofs.read_number.Goals as goal

pub returns-in_default : goal.returns-in_default
returns-in_default c = number_natural _ _ c.in_default.ensures c.natural.ensures

pub returns-in_err-n : goal.returns-in_err-n
returns-in_err-n c = c.from_residual.ensures ∙ number_none _ _ c.in-Some.ensures c.in_err-n.ensures

pub returns-then-n-eq0 : goal.returns-then-n-eq0
returns-then-n-eq0 c = number_zero _ _ c.in-Some.ensures c.in_ok-n.ensures c.if-n-eq0.true

pub overflow_sub-result : goal.overflow_sub-result
overflow_sub-result c = minus_fits _ _ c.in-Some.ensures c.in_ok-n.ensures

pub returns : goal.returns
returns c = number_minus _ _ c.in-Some.ensures c.in_ok-n.ensures c.if-n-eq0.false
