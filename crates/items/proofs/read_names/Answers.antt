-- `read_names`: what is read so far, joined to what is read on, is what is read from the first place on.
use mathlib.Core.Path.{◌∙◌}
use Rattle.text.specs.Words.{name_found}
use Rattle.text.proofs.Views.{name_reading}
use Rattle.items.proofs.Folds.{list_falls, list_end, list_unspaced, list_stuck, list_more}
use Rattle.items.proofs.NameLists.{names_way, names_start}
use Rattle.items.proofs.read_names.Goals as goal

pub loop-r-init : goal.loop-r-init
loop-r-init c = names_start _ _

pub returns-in_err-skip : goal.returns-in_err-skip
unfolding names_way name_reading name_found
returns-in_err-skip c = c.from_residual.ensures ∙ list_unspaced (names_way _) _ _ c.loop-r.invariant c.byte.ensures c.loop-r-test.true c.in_err-skip.ensures

pub returns-in_err-n : goal.returns-in_err-n
unfolding names_way name_reading name_found
returns-in_err-n c = c.from_residual-in_err-n.ensures ∙ list_stuck (names_way _) _ _ c.loop-r.invariant c.byte.ensures c.loop-r-test.true c.in_ok-skip.ensures c.in_err-n.ensures

pub loop-r-smaller : goal.loop-r-smaller
unfolding names_way name_reading name_found
loop-r-smaller c = list_falls (names_way _) _ c.in_ok-skip.ensures c.in_ok-n.ensures

pub loop-r-preserved : goal.loop-r-preserved
unfolding names_way name_reading name_found
loop-r-preserved c = list_more (names_way _) _ _ c.loop-r.invariant c.byte.ensures c.loop-r-test.true c.in_ok-skip.ensures c.in_ok-n.ensures (c.add.ensures)

pub returns : goal.returns
unfolding names_way name_reading name_found
returns c = list_end (names_way _) _ _ c.loop-r.invariant c.byte.ensures c.loop-r-test.false
