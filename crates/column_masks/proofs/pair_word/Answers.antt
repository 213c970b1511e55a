use borrow.Author.Rules.{rules}
use Rattle.rows.proofs.Loops.{word_ends}
use Rattle.column_masks.proofs.Columns.{strip_bit}
use Rattle.column_masks.proofs.Fours.{test_bit}
use Rattle.column_masks.proofs.pair_word.Goals as goal

pub loop-i-init : goal.loop-i-init
loop-i-init g c = search (word_ends, rules)

pub overflow_mul-m : goal.overflow_mul-m
overflow_mul-m g c = search (word_ends, rules)

pub overflow_add-m : goal.overflow_add-m
overflow_add-m g c = search (word_ends, strip_bit, test_bit, rules)

pub loop-i-preserved : goal.loop-i-preserved
loop-i-preserved g c = search (word_ends, strip_bit, test_bit, rules)
