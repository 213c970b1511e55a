use Rattle.column_masks.proofs.Fours.{four_rows}
use Rattle.column_masks.proofs.value_four.Goals as goal

pub returns : goal.returns
returns g c = (four_rows _ _ _ _ c.four_bits.ensures.0 c.value_at-4.ensures c.value_at-3.ensures c.value_at-2.ensures c.value_at.ensures, c.four_bits.ensures.1)
