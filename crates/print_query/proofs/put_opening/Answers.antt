use borrow.Author.Rules.{rules}
use Rattle.print_query.proofs.Openings.{opening_ends}
use Rattle.print_query.proofs.put_opening.Goals as goal

pub returns-in-0 : goal.returns-in-0
returns-in-0 c = search (opening_ends, rules)

pub returns-in-1 : goal.returns-in-1
returns-in-1 c = search (opening_ends, rules)

pub returns-in-2 : goal.returns-in-2
returns-in-2 c = search (opening_ends, rules)

pub returns-in-3 : goal.returns-in-3
returns-in-3 c = search (opening_ends, rules)

pub returns-in-4 : goal.returns-in-4
returns-in-4 c = search (opening_ends, rules)

pub returns-in_default : goal.returns-in_default
returns-in_default c = search (opening_ends, rules)
