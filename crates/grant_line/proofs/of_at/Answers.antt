use Rattle.grant_line.proofs.Parts.{of_ends}
use Rattle.grant_line.proofs.of_at.Goals as goal

pub returns-in_err-p : goal.returns-in_err-p
returns-in_err-p c = search (of_ends, c.in_err-p.ensures)

pub returns-in_err-o : goal.returns-in_err-o
returns-in_err-o c = search (of_ends, c.in_ok-p.ensures, c.in_err-o.ensures)

pub returns-then-o-eq0 : goal.returns-then-o-eq0
returns-then-o-eq0 c = search (of_ends, c.in_ok-p.ensures, c.in_ok-o.ensures)

pub returns-in_err-end : goal.returns-in_err-end
returns-in_err-end c = search (of_ends, c.in_ok-p.ensures, c.in_ok-o.ensures, c.in_err-end.ensures)

pub returns : goal.returns
returns c = search (of_ends, c.in_ok-p.ensures, c.in_ok-o.ensures, c.in_ok-end.ensures)
