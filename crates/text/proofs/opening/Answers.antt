-- `opening`: by the bracket and the code of the word.
use mathlib.Core.Path.{◌∙◌}
use Rattle.text.proofs.Keywords.{open_unopened, open_wordless, open_unlike, open_here}
use Rattle.text.proofs.opening.Goals as goal

pub returns-in_err-skip : goal.returns-in_err-skip
returns-in_err-skip c = c.from_residual.ensures ∙ open_unopened _ _ _ c.in_err-skip.ensures

pub returns-in_err-w : goal.returns-in_err-w
returns-in_err-w c = c.from_residual-in_err-w.ensures ∙ open_wordless _ _ _ c.in_ok-skip.ensures c.ranges.code c.in_err-w.ensures

pub returns-then-w-code : goal.returns-then-w-code
returns-then-w-code c = open_unlike _ _ _ c.in_ok-skip.ensures c.ranges.code c.in_ok-w.ensures c.if-w-code.true

pub returns : goal.returns
returns c = open_here _ _ _ c.in_ok-skip.ensures c.ranges.code c.in_ok-w.ensures c.if-w-code.false
