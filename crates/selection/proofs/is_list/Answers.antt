use borrow.Author.Rules.{rules}
use Rattle.selection.proofs.Evaluating.{list_tests}
use Rattle.selection.proofs.is_list.Goals as goal

pub head_of-head-requires : goal.head_of-head-requires
head_of-head-requires c = search (list_tests, rules)

pub returns-then-head-lt-AND : goal.returns-then-head-lt-AND
returns-then-head-lt-AND c = search (list_tests, rules)

pub returns : goal.returns
returns c = search (list_tests, rules)
