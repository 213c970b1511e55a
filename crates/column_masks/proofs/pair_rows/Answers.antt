use borrow.Author.Rules.{rules}
use Rattle.column_masks.proofs.Columns.{lent_start, lent_strip, rows_compared}
use Rattle.column_masks.proofs.pair_rows.Goals as goal

pub returns-then-not-strip_lent : goal.returns-then-not-strip_lent
returns-then-not-strip_lent g c = search (rows_compared, rules)

pub returns-then-not-strip_lent-2 : goal.returns-then-not-strip_lent-2
returns-then-not-strip_lent-2 g c = search (rows_compared, rules)

pub pair_mask-requires : goal.pair_mask-requires
pair_mask-requires g c = let x = c.args in (lent_start x.a.now x.p x.s x.n c.strip_lent.ensures c.if-not-strip_lent.false-raw, lent_start x.b.now x.q x.t x.n c.strip_lent-2.ensures c.if-not-strip_lent-2.false-raw, lent_strip _ _ _ _ c.strip_lent.ensures c.if-not-strip_lent.false-raw, lent_strip _ _ _ _ c.strip_lent-2.ensures c.if-not-strip_lent-2.false-raw)

pub returns : goal.returns
returns g c = search (rows_compared, rules)
