use Rattle.column_masks.proofs.Fours.{full_rows}
use Rattle.column_masks.proofs.value_full.Goals as goal

pub returns : goal.returns
returns g c = full_rows _ _ _ _ c.four_digits-high.ensures.0 c.four_digits-low.ensures.0 c.value_four-8.ensures.0 c.value_four-7.ensures.0 c.value_four-6.ensures.0 c.value_four-5.ensures.0 c.value_four-4.ensures.0 c.value_four-3.ensures.0 c.value_four-2.ensures.0 c.value_four.ensures.0
