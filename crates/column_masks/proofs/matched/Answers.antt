use borrow.Author.Rules.{rules}
use Rattle.column_masks.proofs.Columns.{lent_start, lent_strip, matched_ends}
use Rattle.column_masks.proofs.matched.Goals as goal

pub returns-then-not-strip_lent : goal.returns-then-not-strip_lent
returns-then-not-strip_lent c = search (matched_ends, rules)

pub matched_mask-requires : goal.matched_mask-requires
matched_mask-requires c = (let a = c.args in lent_start a.values.now a.p 6 a.n c.strip_lent.ensures c.if-not-strip_lent.false-raw, lent_strip _ _ _ _ c.strip_lent.ensures c.if-not-strip_lent.false-raw)

pub returns : goal.returns
returns c = search (matched_ends, rules)
