-- `rows_at`: each end by what stands there.
use Rattle.query_read.proofs.Owning.{rows_ends}
use Rattle.query_read.proofs.rows_at.Goals as goal

pub returns-in_err-p : goal.returns-in_err-p
returns-in_err-p c = search (rows_ends, c.in_err-p.ensures)

pub returns-in_err-m : goal.returns-in_err-m
returns-in_err-m c = search (rows_ends, c.in_ok-p.ensures, c.in_err-m.ensures)

pub returns-in_err-end : goal.returns-in_err-end
returns-in_err-end c = search (rows_ends, c.in_ok-p.ensures, c.in_ok-m.ensures, c.in_err-end.ensures)

pub returns : goal.returns
returns c = search (rows_ends, c.in_ok-p.ensures, c.in_ok-m.ensures, c.in_ok-end.ensures)
