use borrow.Author.Rules.{rules}
use Rattle.print.proofs.Walks.{lasts_ends}
use Rattle.print.proofs.last_of.Goals as goal

pub returns-then-head-eq-NOT : goal.returns-then-head-eq-NOT
returns-then-head-eq-NOT c = search (lasts_ends, rules)

pub returns : goal.returns
returns c = search (lasts_ends, rules)
