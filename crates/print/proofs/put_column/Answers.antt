use borrow.Author.Rules.{rules}
use Rattle.print.proofs.Names.{column_ends}
use Rattle.print.proofs.put_column.Goals as goal

pub returns-then-stream-eq0 : goal.returns-then-stream-eq0
returns-then-stream-eq0 c = search (column_ends, rules)

pub returns-then-out-p : goal.returns-then-out-p
returns-then-out-p c = search (column_ends, rules)

pub returns : goal.returns
returns c = search (column_ends, rules)
