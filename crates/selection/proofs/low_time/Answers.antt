use borrow.Author.Rules.{rules}
use Rattle.selection.proofs.Limits.{limit_ends}
use Rattle.selection.proofs.low_time.Goals as goal

pub returns-then-from-gt-TOP : goal.returns-then-from-gt-TOP
returns-then-from-gt-TOP c = search (limit_ends, rules)

pub returns-then-from-left : goal.returns-then-from-left
returns-then-from-left c = search (limit_ends, rules)

pub returns : goal.returns
returns c = search (limit_ends, rules)
