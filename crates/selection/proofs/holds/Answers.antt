use borrow.Author.Rules.{rules}
use Rattle.selection.proofs.Comparing.{holds_ends}
use Rattle.selection.proofs.holds.Goals as goal

pub returns-then-head-eq1 : goal.returns-then-head-eq1
returns-then-head-eq1 c = search (holds_ends, rules)

pub returns-then-head-eq2 : goal.returns-then-head-eq2
returns-then-head-eq2 c = search (holds_ends, rules)

pub returns-then-head-eq3 : goal.returns-then-head-eq3
returns-then-head-eq3 c = search (holds_ends, rules)

pub returns-then-head-eq4 : goal.returns-then-head-eq4
returns-then-head-eq4 c = search (holds_ends, rules)

pub returns-then-head-eq5 : goal.returns-then-head-eq5
returns-then-head-eq5 c = search (holds_ends, rules)

pub returns : goal.returns
returns c = search (holds_ends, rules)
