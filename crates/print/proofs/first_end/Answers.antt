-- `first_end`: a condition of the list ends at e.
use borrow.Author.Rules.{rules}
use Rattle.print.proofs.Walks.{first_ends}
use Rattle.print.proofs.first_end.Goals as goal

pub loop-b-init : goal.loop-b-init
loop-b-init c = (search (first_ends, rules), search rules)

pub loop-b-smaller : goal.loop-b-smaller
loop-b-smaller c = search (first_ends, rules)

pub loop-b-preserved : goal.loop-b-preserved
loop-b-preserved c = (search (first_ends, rules), search rules)

pub returns : goal.returns
returns c = search (first_ends, rules)
