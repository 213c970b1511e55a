use borrow.Author.Rules.{rules}
use Rattle.print.proofs.Conditions.{compares_ends}
use Rattle.print.proofs.compares.Goals as goal

pub returns-then-head-lt-AND : goal.returns-then-head-lt-AND
returns-then-head-lt-AND c = search (compares_ends, rules)

pub returns-else-head-lt-AND : goal.returns-else-head-lt-AND
returns-else-head-lt-AND c = search (compares_ends, rules)
