use borrow.Author.Rules.{rules}
use Rattle.selection.proofs.Evaluating.{join_ends}
use Rattle.selection.proofs.started.Goals as goal

pub returns-then-any : goal.returns-then-any
returns-then-any c = search (join_ends, rules)

pub returns : goal.returns
returns c = search (join_ends, rules)
