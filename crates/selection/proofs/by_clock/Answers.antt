-- `by_clock`: what the calls of `by_head` give.
use borrow.Author.Rules.{rules}
use Rattle.column_masks.specs.Columns.{strip}
use Rattle.time_masks.specs.Times.{clocked}
use Rattle.selection.proofs.Clocks.{rows_above}
use Rattle.selection.proofs.by_clock.Goals as goal

pub returns : goal.returns
returns c =
    let a = c.args in
    c.by_head.ensures (clocked a.low.v a.times.now a.from) (strip a.values.now a.p 6) (λ r p. search rules) (λ r p. search rules) (λ r p. search (rows_above, rules))
