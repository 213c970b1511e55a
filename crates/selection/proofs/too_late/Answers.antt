use borrow.Author.Rules.{rules}
use Rattle.selection.proofs.Limits.{late_ends}
use Rattle.selection.proofs.too_late.Goals as goal

pub returns-then-to-ge-TOP : goal.returns-then-to-ge-TOP
returns-then-to-ge-TOP c = search (late_ends, rules)

pub returns : goal.returns
returns c = search (late_ends, rules)
