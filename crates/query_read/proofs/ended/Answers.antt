-- `ended`: by its fields.
use mathlib.Core.Path.{refl}
use Rattle.query_read.specs.Seeing.{reading_ended}
use Rattle.query_read.proofs.ended.Goals as goal

pub returns : goal.returns
unfolding reading_ended
returns c = refl
