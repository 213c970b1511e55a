use Rattle.column_masks.proofs.Columns.{matched_parts}
use mathlib.Core.Path.{refl}
use Rattle.column_masks.proofs.value_all.Goals as goal

pub returns : goal.returns
returns g c = matched_parts _ _ _ _ 128 refl refl refl refl c.value_full.ensures c.value_full-2.ensures c.value_full-3.ensures c.value_full-4.ensures
