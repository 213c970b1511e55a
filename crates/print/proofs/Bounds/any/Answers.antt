use borrow.Author.Rules.{rules}
use Rattle.print.proofs.Picks.{any_ends}
use Rattle.print.proofs.Bounds.any.Goals as goal

pub returns-then-self-le-TOP : goal.returns-then-self-le-TOP
returns-then-self-le-TOP c = search (any_ends, rules)

pub returns-else-self-le-TOP : goal.returns-else-self-le-TOP
returns-else-self-le-TOP c = search (any_ends, rules)
