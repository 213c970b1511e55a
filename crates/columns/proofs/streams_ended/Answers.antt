-- `streams_ended`: by its fields.
use mathlib.Core.Path.{refl}
use Rattle.columns.specs.Columns.{streams_ended}
use Rattle.columns.proofs.streams_ended.Goals as goal

pub returns : goal.returns
unfolding streams_ended
returns c = refl
