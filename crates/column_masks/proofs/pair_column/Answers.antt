use borrow.Author.Rules.{rules}
use Rattle.column_masks.proofs.Fours.{word_full, full_reads}
use Rattle.column_masks.proofs.pair_column.Goals as goal

pub pair_full-requires : goal.pair_full-requires
pair_full-requires g c = search (full_reads, rules)

pub returns-then-n-eq-WORD : goal.returns-then-n-eq-WORD
returns-then-n-eq-WORD g c = word_full _ _ c.if-n-eq-WORD.true c.pair_full.ensures
