-- `join_at`: each end by what stands there.
use Rattle.query_read.proofs.Owning.{join_ends}
use Rattle.query_read.proofs.join_at.Goals as goal

pub returns-in_err-o : goal.returns-in_err-o
returns-in_err-o c = search (join_ends, c.in_err-o.ensures)

pub returns-in_err-p : goal.returns-in_err-p
returns-in_err-p c = search (join_ends, c.in_ok-o.ensures, c.in_err-p.ensures)

pub returns-in_err-l : goal.returns-in_err-l
returns-in_err-l c = search (join_ends, c.in_ok-o.ensures, c.in_ok-p.ensures, c.in_err-l.ensures)

pub returns-in_err-q : goal.returns-in_err-q
returns-in_err-q c = search (join_ends, c.in_ok-o.ensures, c.in_ok-p.ensures, c.in_ok-l.ensures, c.in_err-q.ensures)

pub returns-in_err-r : goal.returns-in_err-r
returns-in_err-r c = search (join_ends, c.in_ok-o.ensures, c.in_ok-p.ensures, c.in_ok-l.ensures, c.in_ok-q.ensures, c.in_err-r.ensures)

pub returns-in_err-end : goal.returns-in_err-end
returns-in_err-end c = search (join_ends, c.in_ok-o.ensures, c.in_ok-p.ensures, c.in_ok-l.ensures, c.in_ok-q.ensures, c.in_ok-r.ensures, c.in_err-end.ensures)

pub returns-in_err-next : goal.returns-in_err-next
returns-in_err-next c = search (join_ends, c.in_ok-o.ensures, c.in_ok-p.ensures, c.in_ok-l.ensures, c.in_ok-q.ensures, c.in_ok-r.ensures, c.in_ok-end.ensures, c.in_err-next.ensures)

pub returns : goal.returns
returns c = search (join_ends, c.in_ok-o.ensures, c.in_ok-p.ensures, c.in_ok-l.ensures, c.in_ok-q.ensures, c.in_ok-r.ensures, c.in_ok-end.ensures, c.in_ok-next.ensures)
