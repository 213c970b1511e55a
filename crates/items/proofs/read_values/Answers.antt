-- `read_values`: what is read so far, joined to what is read on, is what is read from the first place on.
use mathlib.Core.Path.{ap, ◌∙◌}
use Rattle.text.specs.Words.{number_found}
use Rattle.text.proofs.Views.{number_reading}
use Rattle.items.specs.Items.{value_more}
use Rattle.items.proofs.Folds.{list_falls, list_end, list_unspaced, list_stuck, list_more}
use Rattle.items.proofs.ValueLists.{values_way, values_start}
use Rattle.items.proofs.read_values.Goals as goal

pub loop-r-init : goal.loop-r-init
loop-r-init c = values_start _ _

pub returns-in_err-skip : goal.returns-in_err-skip
unfolding values_way number_reading number_found
returns-in_err-skip c = c.from_residual.ensures ∙ list_unspaced (values_way _) _ _ c.loop-r.invariant c.byte.ensures c.loop-r-test.true c.in_err-skip.ensures

pub returns-in_err-n : goal.returns-in_err-n
unfolding values_way number_reading number_found
returns-in_err-n c = c.from_residual-in_err-n.ensures ∙ list_stuck (values_way _) _ _ c.loop-r.invariant c.byte.ensures c.loop-r-test.true c.in_ok-skip.ensures c.in_err-n.ensures

pub loop-r-smaller : goal.loop-r-smaller
unfolding values_way number_reading number_found
loop-r-smaller c = list_falls (values_way _) _ c.in_ok-skip.ensures c.in_ok-n.ensures

pub loop-r-preserved : goal.loop-r-preserved
unfolding values_way number_reading number_found
loop-r-preserved c = list_more (values_way _) _ _ c.loop-r.invariant c.byte.ensures c.loop-r-test.true c.in_ok-skip.ensures c.in_ok-n.ensures (c.add.ensures ∙ ap (value_more c.loop-r.r) c.kept.ensures)

pub returns : goal.returns
unfolding values_way number_reading number_found
returns c = list_end (values_way _) _ _ c.loop-r.invariant c.byte.ensures c.loop-r-test.false
