use borrow.Author.Rules.{rules}
use Rattle.column_masks.proofs.Keyed.{found_ends}
use Rattle.column_masks.proofs.with_value.Goals as goal

pub overflow_add-result : goal.overflow_add-result
overflow_add-result c = search (found_ends, rules)

pub returns-then-x-v : goal.returns-then-x-v
returns-then-x-v c = search (found_ends, rules)

pub returns : goal.returns
returns c = search (found_ends, rules)
