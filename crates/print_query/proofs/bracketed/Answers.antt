use borrow.Author.Rules.{rules}
use Rattle.print_query.proofs.Openings.{bracketed_ends}
use Rattle.print_query.proofs.bracketed.Goals as goal

pub returns-then-f-le-AGGREGATE : goal.returns-then-f-le-AGGREGATE
returns-then-f-le-AGGREGATE c = search (bracketed_ends, rules)

pub returns-else-f-le-AGGREGATE : goal.returns-else-f-le-AGGREGATE
returns-else-f-le-AGGREGATE c = search (bracketed_ends, rules)
