-- `aggregate_at`: each end by what stands there.
use Rattle.query_read.proofs.Owning.{aggregate_ends}
use Rattle.query_read.proofs.aggregate_at.Goals as goal

pub returns-in_err-p : goal.returns-in_err-p
returns-in_err-p c = search (aggregate_ends, c.in_err-p.ensures)

pub returns-in_err-c : goal.returns-in_err-c
returns-in_err-c c = search (aggregate_ends, c.in_ok-p.ensures, c.in_err-c.ensures)

pub returns-in_err-q : goal.returns-in_err-q
returns-in_err-q c = search (aggregate_ends, c.in_ok-p.ensures, c.in_ok-c.ensures, c.in_err-q.ensures)

pub returns-in_err-z : goal.returns-in_err-z
returns-in_err-z c = search (aggregate_ends, c.in_ok-p.ensures, c.in_ok-c.ensures, c.in_ok-q.ensures, c.in_err-z.ensures)

pub returns-in_err-r : goal.returns-in_err-r
returns-in_err-r c = search (aggregate_ends, c.in_ok-p.ensures, c.in_ok-c.ensures, c.in_ok-q.ensures, c.in_ok-z.ensures, c.in_err-r.ensures)

pub returns-in_err-w : goal.returns-in_err-w
returns-in_err-w c = search (aggregate_ends, c.in_ok-p.ensures, c.in_ok-c.ensures, c.in_ok-q.ensures, c.in_ok-z.ensures, c.in_ok-r.ensures, c.in_err-w.ensures)

pub returns-in_err-next : goal.returns-in_err-next
returns-in_err-next c = search (aggregate_ends, c.in_ok-p.ensures, c.in_ok-c.ensures, c.in_ok-q.ensures, c.in_ok-z.ensures, c.in_ok-r.ensures, c.in_ok-w.ensures, c.in_err-next.ensures)

pub returns : goal.returns
returns c = search (aggregate_ends, c.in_ok-p.ensures, c.in_ok-c.ensures, c.in_ok-q.ensures, c.in_ok-z.ensures, c.in_ok-r.ensures, c.in_ok-w.ensures, c.in_ok-next.ensures)
