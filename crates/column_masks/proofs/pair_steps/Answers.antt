use borrow.Author.Rules.{rules}
use Rattle.rows.proofs.Loops.{start_ends, part_le}
use Rattle.column_masks.proofs.Columns.{strip_word}
use Rattle.column_masks.proofs.pair_steps.Goals as goal

pub pair_word-requires : goal.pair_word-requires
pair_word-requires g c = search (strip_word, part_le, rules)

pub pair_word-requires-2 : goal.pair_word-requires-2
pair_word-requires-2 g c = search (strip_word, part_le, rules)

pub pair_word-requires-3 : goal.pair_word-requires-3
pair_word-requires-3 g c = search (strip_word, part_le, rules)

pub pair_word-requires-4 : goal.pair_word-requires-4
pair_word-requires-4 g c = search (strip_word, part_le, rules)

pub returns : goal.returns
returns g c = search (start_ends, rules)
