use borrow.Author.Rules.{rules}
use Rattle.report.proofs.Dues.{due_ends}
use Rattle.report.proofs.rows_due.Goals as goal
use Rattle.report.proofs.rows_due.Goals.{then-width-eq0-via-then-width-eq0, then-width-eq0-via-else-width-eq0+then-n-eq0}

pub returns-then-width-eq0 : goal.returns-then-width-eq0
returns-then-width-eq0 c = elim c.then-width-eq0.branch [ then-width-eq0-via-then-width-eq0 w ↦ search (due_ends, rules) | then-width-eq0-via-else-width-eq0+then-n-eq0 w ↦ search (due_ends, rules) ]

pub returns : goal.returns
returns c = search (due_ends, rules)
