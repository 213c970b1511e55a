-- `no_streams`: by its fields.
use mathlib.Core.Path.{refl}
use Rattle.columns.specs.Columns.{no_streams}
use Rattle.columns.proofs.no_streams.Goals as goal

pub returns : goal.returns
unfolding no_streams
returns c = refl
