use borrow.Author.Rules.{rules}
use Rattle.selection.proofs.Sides.{number_ends}
use Rattle.selection.proofs.number_value.Goals as goal

pub overflow_sub-result : goal.overflow_sub-result
overflow_sub-result c = search (number_ends, rules)

pub overflow_cast-result : goal.overflow_cast-result
overflow_cast-result c = search (number_ends, rules)

pub overflow_sub-result-then-value-lt2147483648 : goal.overflow_sub-result-then-value-lt2147483648
overflow_sub-result-then-value-lt2147483648 c = search (number_ends, rules)

pub returns-then-value-lt2147483648 : goal.returns-then-value-lt2147483648
returns-then-value-lt2147483648 c = search (number_ends, rules)

pub overflow_cast-result-2 : goal.overflow_cast-result-2
overflow_cast-result-2 c = search (number_ends, rules)

pub returns : goal.returns
returns c = search (number_ends, rules)
