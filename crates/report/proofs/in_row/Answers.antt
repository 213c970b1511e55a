use borrow.Author.Rules.{rules}
use Rattle.report.proofs.Dues.{row_ends}
use Rattle.report.proofs.in_row.Goals as goal

pub returns-then-k-eq0 : goal.returns-then-k-eq0
returns-then-k-eq0 c = search (row_ends, rules)

pub returns : goal.returns
returns c = search (row_ends, rules)
