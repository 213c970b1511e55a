use borrow.Author.Rules.{rules}
use Rattle.print.proofs.Picks.{limit_ends}
use Rattle.print.proofs.put_limit.Goals as goal

pub returns-then-n-gt-TOP : goal.returns-then-n-gt-TOP
returns-then-n-gt-TOP c = search (limit_ends, rules)

pub returns : goal.returns
returns c = search (limit_ends, rules)
