use borrow.Author.Rules.{rules}
use Rattle.selection.proofs.Relating.{wide_ends}
use Rattle.selection.proofs.is_wide.Goals as goal

pub returns-then-n-ne-NUMBER : goal.returns-then-n-ne-NUMBER
returns-then-n-ne-NUMBER c = search (wide_ends, rules)

pub returns : goal.returns
returns c = search (wide_ends, rules)
