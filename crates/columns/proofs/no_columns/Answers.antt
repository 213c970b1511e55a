-- `no_columns`: by its fields.
use mathlib.Core.Path.{refl}
use Rattle.columns.specs.Columns.{no_columns}
use Rattle.columns.proofs.no_columns.Goals as goal

pub returns : goal.returns
unfolding no_columns
returns c = refl
