-- `part`: by the space.
use mathlib.Core.Path.{◌∙◌}
use Rattle.text.proofs.Keywords.{part_unspaced, part_here}
use Rattle.text.proofs.part.Goals as goal

pub returns-in_err-skip : goal.returns-in_err-skip
returns-in_err-skip c = c.from_residual.ensures ∙ part_unspaced _ _ _ c.in_err-skip.ensures

pub returns : goal.returns
returns c = part_here _ _ _ c.in_ok-skip.ensures c.opening.ensures
