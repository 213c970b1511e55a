use borrow.Author.Rules.{rules}
use Rattle.selection.proofs.Evaluating.{head_ends}
use Rattle.selection.proofs.head_of.Goals as goal

pub returns-then-k-eq0 : goal.returns-then-k-eq0
returns-then-k-eq0 c = search (head_ends, rules)

pub returns : goal.returns
returns c = search (head_ends, rules)
