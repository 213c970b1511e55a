use borrow.Author.Rules.{rules}
use Rattle.print.proofs.Names.{col_ends}
use Rattle.print.proofs.put_col.Goals as goal

pub returns-then-code-lt-TIME : goal.returns-then-code-lt-TIME
returns-then-code-lt-TIME c = search (col_ends, rules)

pub returns : goal.returns
returns c = search (col_ends, rules)
