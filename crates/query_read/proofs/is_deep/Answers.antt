-- `is_deep`: by the bound.
use mathlib.Core.Path.{refl}
use Rattle.query_read.specs.Seeing.{deep}
use Rattle.query_read.proofs.is_deep.Goals as goal

pub returns : goal.returns
unfolding deep
returns c = refl
