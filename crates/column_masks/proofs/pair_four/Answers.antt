use Rattle.column_masks.proofs.Fours.{four_pairs}
use Rattle.column_masks.proofs.pair_four.Goals as goal

pub returns : goal.returns
returns g c = (four_pairs _ _ _ _ _ c.four_bits.ensures.0 c.pair_at-4.ensures c.pair_at-3.ensures c.pair_at-2.ensures c.pair_at.ensures, c.four_bits.ensures.1)
