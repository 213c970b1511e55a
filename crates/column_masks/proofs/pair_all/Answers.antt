use Rattle.column_masks.proofs.Fours.{pairs_parts}
use mathlib.Core.Path.{refl}
use Rattle.column_masks.proofs.pair_all.Goals as goal

pub returns : goal.returns
returns g c = pairs_parts _ _ _ _ _ 128 refl refl refl refl c.pair_full.ensures c.pair_full-2.ensures c.pair_full-3.ensures c.pair_full-4.ensures
