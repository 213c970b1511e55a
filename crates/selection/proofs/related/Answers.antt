-- `related`: what the calls of `by_head` give.
use borrow.Author.Rules.{rules}
use Rattle.column_masks.specs.Columns.{strip}
use Rattle.column_masks.proofs.Columns.{compared_lent}
use Rattle.selection.proofs.related.Goals as goal

pub returns : goal.returns
returns c =
    let a = c.args in
    c.by_head.ensures (strip a.values.now a.p 6) (strip a.values.now a.q 6) (λ r p. search (compared_lent, rules)) (λ r p. search (compared_lent, rules)) (λ r p. search (compared_lent, rules))
