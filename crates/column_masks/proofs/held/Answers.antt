use borrow.Author.Rules.{rules}
use Rattle.column_masks.proofs.Columns.{lent_start, lent_strip}
use Rattle.column_masks.proofs.Keyed.{held_ends}
use Rattle.column_masks.proofs.held.Goals as goal

pub returns-then-not-strip_lent : goal.returns-then-not-strip_lent
returns-then-not-strip_lent c = search (held_ends, rules)

pub held_mask-requires : goal.held_mask-requires
held_mask-requires c = let a = c.args in (lent_start a.values.now a.p 6 128 c.strip_lent.ensures c.if-not-strip_lent.false-raw, lent_strip a.values.now a.p 6 128 c.strip_lent.ensures c.if-not-strip_lent.false-raw)

pub returns : goal.returns
returns c = search (held_ends, rules)
