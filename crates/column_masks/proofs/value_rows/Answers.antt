use borrow.Author.Rules.{rules}
use Rattle.rows.proofs.Loops.{part_le}
use Rattle.column_masks.proofs.Columns.{strip_word, column_word, matched_parts}
use Rattle.column_masks.proofs.Fours.{rows_full, all_reads}
use Rattle.column_masks.proofs.value_rows.Goals as goal

pub value_all-requires : goal.value_all-requires
value_all-requires g c = search (all_reads, rules)

pub returns-then-n-eq-MOST : goal.returns-then-n-eq-MOST
returns-then-n-eq-MOST g c = rows_full _ _ c.if-n-eq-MOST.true c.value_all.ensures

pub value_word-requires : goal.value_word-requires
value_word-requires g c = (part_le _ 0 c.part.ensures, strip_word c.requires.1 0 c.part.ensures)

pub value_word-requires-2 : goal.value_word-requires-2
value_word-requires-2 g c = (part_le _ 32 c.part-2.ensures, column_word c.requires.1 32 c.part-2.ensures)

pub value_word-requires-3 : goal.value_word-requires-3
value_word-requires-3 g c = (part_le _ 64 c.part-3.ensures, column_word c.requires.1 64 c.part-3.ensures)

pub value_word-requires-4 : goal.value_word-requires-4
value_word-requires-4 g c = (part_le _ 96 c.part-4.ensures, column_word c.requires.1 96 c.part-4.ensures)

pub returns : goal.returns
returns g c = matched_parts _ _ _ _ _ c.part.ensures c.part-2.ensures c.part-3.ensures c.part-4.ensures c.value_word.ensures c.value_word-2.ensures c.value_word-3.ensures c.value_word-4.ensures
