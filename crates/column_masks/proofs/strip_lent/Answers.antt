use borrow.Author.Rules.{rules}
use Rattle.column_masks.proofs.Columns.{lent_ends}
use Rattle.column_masks.proofs.strip_lent.Goals as goal

pub returns-then-n-gt-MOST : goal.returns-then-n-gt-MOST
returns-then-n-gt-MOST c = search (lent_ends, rules)

pub returns-then-s-gt-COLUMNS : goal.returns-then-s-gt-COLUMNS
returns-then-s-gt-COLUMNS c = search (lent_ends, rules)

pub returns-then-p-ge-NEAR : goal.returns-then-p-ge-NEAR
returns-then-p-ge-NEAR c = search (lent_ends, rules)

pub returns-then-n-eq0 : goal.returns-then-n-eq0
returns-then-n-eq0 c = search (lent_ends, rules)

pub overflow_mul-result : goal.overflow_mul-result
overflow_mul-result c = search (lent_ends, rules)

pub overflow_add-result : goal.overflow_add-result
overflow_add-result c = search (lent_ends, rules)

pub overflow_cast-result : goal.overflow_cast-result
overflow_cast-result c = search (lent_ends, rules)

pub returns : goal.returns
returns c = search (lent_ends, rules)
