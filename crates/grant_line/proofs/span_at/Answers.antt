use Rattle.grant_line.proofs.Times.{span_ends}
use Rattle.grant_line.proofs.span_at.Goals as goal

pub returns-in_err-p : goal.returns-in_err-p
returns-in_err-p c = search (span_ends, c.in_err-p.ensures)

pub returns-in_err-a : goal.returns-in_err-a
returns-in_err-a c = search (span_ends, c.in_ok-p.ensures, c.in_err-a.ensures)

pub returns-in_err-q : goal.returns-in_err-q
returns-in_err-q c = search (span_ends, c.in_ok-p.ensures, c.in_ok-a.ensures, c.in_err-q.ensures)

pub returns-in_err-b : goal.returns-in_err-b
returns-in_err-b c = search (span_ends, c.in_ok-p.ensures, c.in_ok-a.ensures, c.in_ok-q.ensures, c.in_err-b.ensures)

pub returns-in_err-end : goal.returns-in_err-end
returns-in_err-end c = search (span_ends, c.in_ok-p.ensures, c.in_ok-a.ensures, c.in_ok-q.ensures, c.in_ok-b.ensures, c.in_err-end.ensures)

pub returns : goal.returns
returns c = search (span_ends, c.in_ok-p.ensures, c.in_ok-a.ensures, c.in_ok-q.ensures, c.in_ok-b.ensures, c.in_ok-end.ensures)
