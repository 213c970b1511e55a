use borrow.Author.Rules.{rules}
use Rattle.print.proofs.Conditions.{head_ends}
use Rattle.print.proofs.list_opened.Goals as goal

pub returns-in-7 : goal.returns-in-7
returns-in-7 c = search (head_ends, rules)

pub returns-in-8 : goal.returns-in-8
returns-in-8 c = search (head_ends, rules)

pub returns-in_default : goal.returns-in_default
returns-in_default c = search (head_ends, rules)
