use borrow.Author.Rules.{rules}
use Rattle.rows.proofs.Masks.{mask_ends}
use Rattle.rows.proofs.filled.Goals as goal

pub overflow_sub-result : goal.overflow_sub-result
overflow_sub-result c = search (mask_ends, rules)

pub returns-then-k-lt32 : goal.returns-then-k-lt32
returns-then-k-lt32 c = search (mask_ends, rules)

pub returns : goal.returns
returns c = search (mask_ends, rules)
