use borrow.Author.Rules.{rules}
use Rattle.selection.proofs.Limits.{limit_ends}
use Rattle.selection.proofs.high_time.Goals as goal

pub returns-then-to-lt-TOP : goal.returns-then-to-lt-TOP
returns-then-to-lt-TOP c = search (limit_ends, rules)

pub returns : goal.returns
returns c = search (limit_ends, rules)
