use borrow.Author.Rules.{rules}
use Rattle.selection.proofs.Evaluating.{taken_ends}
use Rattle.selection.proofs.node_of.Goals as goal

pub returns-then-k-eq0 : goal.returns-then-k-eq0
returns-then-k-eq0 c = search (taken_ends, rules)

pub returns-then-right-eq-NUMBER : goal.returns-then-right-eq-NUMBER
returns-then-right-eq-NUMBER c = search (taken_ends, rules)

pub returns-then-right-eq-ENTRY : goal.returns-then-right-eq-ENTRY
returns-then-right-eq-ENTRY c = search (taken_ends, rules)

pub returns : goal.returns
returns c = search (taken_ends, rules)
