use Rattle.grant_line.proofs.Times.{limit_ends}
use Rattle.grant_line.proofs.limit_at.Goals as goal

pub returns-in_default : goal.returns-in_default
returns-in_default c = search (limit_ends, c.in_default.ensures)

pub returns-in_err-q : goal.returns-in_err-q
returns-in_err-q c = search (limit_ends, c.in-Some.ensures, c.in_err-q.ensures)

pub returns-in_err-n : goal.returns-in_err-n
returns-in_err-n c = search (limit_ends, c.in-Some.ensures, c.in_ok-q.ensures, c.in_err-n.ensures)

pub returns-in_err-end : goal.returns-in_err-end
returns-in_err-end c = search (limit_ends, c.in-Some.ensures, c.in_ok-q.ensures, c.in_ok-n.ensures, c.in_err-end.ensures)

pub returns : goal.returns
returns c = search (limit_ends, c.in-Some.ensures, c.in_ok-q.ensures, c.in_ok-n.ensures, c.in_ok-end.ensures)
