use borrow.Author.Rules.{rules}
use Rattle.column_masks.proofs.Fours.{bytes_ends}
use Rattle.column_masks.proofs.four_bits.Goals as goal

pub overflow_mul-result : goal.overflow_mul-result
overflow_mul-result c = search (bytes_ends, rules)

pub overflow_add-result : goal.overflow_add-result
overflow_add-result c = search (bytes_ends, rules)

pub overflow_mul-result-2 : goal.overflow_mul-result-2
overflow_mul-result-2 c = search (bytes_ends, rules)

pub overflow_add-result-2 : goal.overflow_add-result-2
overflow_add-result-2 c = search (bytes_ends, rules)

pub overflow_mul-result-3 : goal.overflow_mul-result-3
overflow_mul-result-3 c = search (bytes_ends, rules)

pub overflow_add-result-3 : goal.overflow_add-result-3
overflow_add-result-3 c = search (bytes_ends, rules)

pub returns : goal.returns
returns c = search (bytes_ends, rules)
