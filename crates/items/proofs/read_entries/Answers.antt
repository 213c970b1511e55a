-- `read_entries`: what is read so far, joined to what is read on, is what is read from the first place on.
use mathlib.Core.Path.{◌∙◌}
use Rattle.items.specs.Items.{entry_found}
use Rattle.items.proofs.EntryLists.{entry_reading}
use Rattle.items.proofs.Folds.{list_falls, list_end, list_unspaced, list_stuck, list_more}
use Rattle.items.proofs.EntryLists.{entries_way, entries_start}
use Rattle.items.proofs.read_entries.Goals as goal

pub loop-r-init : goal.loop-r-init
loop-r-init c = entries_start _ _

pub returns-in_err-skip : goal.returns-in_err-skip
unfolding entries_way entry_reading entry_found
returns-in_err-skip c = c.from_residual.ensures ∙ list_unspaced (entries_way _) _ _ c.loop-r.invariant c.byte.ensures c.loop-r-test.true c.in_err-skip.ensures

pub returns-in_err-e : goal.returns-in_err-e
unfolding entries_way entry_reading entry_found
returns-in_err-e c = c.from_residual-in_err-e.ensures ∙ list_stuck (entries_way _) _ _ c.loop-r.invariant c.byte.ensures c.loop-r-test.true c.in_ok-skip.ensures c.in_err-e.ensures

pub loop-r-smaller : goal.loop-r-smaller
unfolding entries_way entry_reading entry_found
loop-r-smaller c = list_falls (entries_way _) _ c.in_ok-skip.ensures c.in_ok-e.ensures

pub loop-r-preserved : goal.loop-r-preserved
unfolding entries_way entry_reading entry_found
loop-r-preserved c = list_more (entries_way _) _ _ c.loop-r.invariant c.byte.ensures c.loop-r-test.true c.in_ok-skip.ensures c.in_ok-e.ensures (c.add.ensures)

pub returns : goal.returns
unfolding entries_way entry_reading entry_found
returns c = list_end (entries_way _) _ _ c.loop-r.invariant c.byte.ensures c.loop-r-test.false
