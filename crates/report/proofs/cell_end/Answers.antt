use borrow.Author.Rules.{rules}
use Rattle.report.proofs.Dues.{end_ends}
use Rattle.report.proofs.cell_end.Goals as goal

pub returns-then-k-eq0 : goal.returns-then-k-eq0
returns-then-k-eq0 c = search (end_ends, rules)

pub returns : goal.returns
returns c = search (end_ends, rules)
