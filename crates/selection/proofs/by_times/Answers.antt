-- `by_times`: by what the side is.
use borrow.Author.Rules.{rules}
use mathlib.Core.Path.{ap, ◌∙◌}
use lib.IntN.{pos}
use Rattle.column_masks.specs.Columns.{strip}
use Rattle.time_masks.specs.Times.{later_of}
use Rattle.selection.specs.Evaluating.{bare}
use Rattle.selection.proofs.Clocks.{clocked_rows}
use Rattle.selection.proofs.Relating.{valued_column, valued_fixed, times_valued, times_self}
use Rattle.selection.proofs.by_times.Goals as goal

pub returns-in-Value : goal.returns-in-Value
returns-in-Value c = let a = c.args in let sc = bare a.stream a.n a.fixed in times_valued sc a.times.now a.values.now a.head a.r (valued_fixed sc a.times.now a.values.now c.in-Value.is (search rules)) c.by_time.ensures

pub returns-in-Column : goal.returns-in-Column
returns-in-Column c =
    let a = c.args in
    let sc = bare a.stream a.n a.fixed in
    times_valued sc a.times.now a.values.now a.head a.r (valued_column sc a.times.now a.values.now c.in-Column.at c.in-Column.is)
    (clocked_rows sc a.times.now (c.clock-low.ensures ∙ ap (later_of (pos 0)) c.left_time.ensures) a.head (strip a.values.now c.in-Column.at 6) a.n c.by_clock.ensures)

pub returns-in-Time : goal.returns-in-Time
returns-in-Time c = let a = c.args in times_self (bare a.stream a.n a.fixed) a.times.now a.values.now a.head a.r c.in-Time.is c.settled.ensures
