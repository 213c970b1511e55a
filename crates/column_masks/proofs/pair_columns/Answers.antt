use borrow.Author.Rules.{rules}
use Rattle.rows.proofs.Loops.{part_le}
use Rattle.column_masks.proofs.Columns.{strip_word, column_word}
use Rattle.column_masks.proofs.Fours.{pairs_parts, rows_full, all_reads}
use Rattle.column_masks.proofs.pair_columns.Goals as goal

pub pair_all-requires : goal.pair_all-requires
pair_all-requires g c = search (all_reads, rules)

pub returns-then-n-eq-MOST : goal.returns-then-n-eq-MOST
returns-then-n-eq-MOST g c = rows_full _ _ c.if-n-eq-MOST.true c.pair_all.ensures

pub pair_column-requires : goal.pair_column-requires
pair_column-requires g c = (part_le _ 0 c.part.ensures, strip_word c.requires.2 0 c.part.ensures, strip_word c.requires.3 0 c.part.ensures)

pub pair_column-requires-2 : goal.pair_column-requires-2
pair_column-requires-2 g c = (part_le _ 32 c.part-2.ensures, column_word c.requires.2 32 c.part-2.ensures, column_word c.requires.3 32 c.part-2.ensures)

pub pair_column-requires-3 : goal.pair_column-requires-3
pair_column-requires-3 g c = (part_le _ 64 c.part-3.ensures, column_word c.requires.2 64 c.part-3.ensures, column_word c.requires.3 64 c.part-3.ensures)

pub pair_column-requires-4 : goal.pair_column-requires-4
pair_column-requires-4 g c = (part_le _ 96 c.part-4.ensures, column_word c.requires.2 96 c.part-4.ensures, column_word c.requires.3 96 c.part-4.ensures)

pub returns : goal.returns
returns g c = pairs_parts _ _ _ _ _ _ c.part.ensures c.part-2.ensures c.part-3.ensures c.part-4.ensures c.pair_column.ensures c.pair_column-2.ensures c.pair_column-3.ensures c.pair_column-4.ensures
