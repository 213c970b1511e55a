use borrow.Author.Rules.{rules}
use Rattle.print.proofs.Sides.{opened_ends}
use Rattle.print.proofs.opened.Goals as goal

pub returns-in-1 : goal.returns-in-1
returns-in-1 c = search (opened_ends, rules)

pub returns-in-2 : goal.returns-in-2
returns-in-2 c = search (opened_ends, rules)

pub returns-in-3 : goal.returns-in-3
returns-in-3 c = search (opened_ends, rules)

pub returns-in-4 : goal.returns-in-4
returns-in-4 c = search (opened_ends, rules)

pub returns-in-5 : goal.returns-in-5
returns-in-5 c = search (opened_ends, rules)

pub returns-in_default : goal.returns-in_default
returns-in_default c = search (opened_ends, rules)
