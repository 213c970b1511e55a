-- `columns_ended`: by its fields.
use mathlib.Core.Path.{refl}
use Rattle.columns.specs.Columns.{columns_ended}
use Rattle.columns.proofs.columns_ended.Goals as goal

pub returns : goal.returns
unfolding columns_ended
returns c = refl
