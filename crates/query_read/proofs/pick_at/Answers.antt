-- `pick_at`: each end by what stands there.
use Rattle.query_read.proofs.Owning.{pick_ends}
use Rattle.query_read.proofs.pick_at.Goals as goal

pub returns-in_err-p : goal.returns-in_err-p
returns-in_err-p c = search (pick_ends, c.in_err-p.ensures)

pub returns-in_err-i : goal.returns-in_err-i
returns-in_err-i c = search (pick_ends, c.in_ok-p.ensures, c.in_err-i.ensures)

pub returns-in_err-next : goal.returns-in_err-next
returns-in_err-next c = search (pick_ends, c.in_ok-p.ensures, c.in_ok-i.ensures, c.in_err-next.ensures)

pub returns : goal.returns
returns c = search (pick_ends, c.in_ok-p.ensures, c.in_ok-i.ensures, c.in_ok-next.ensures)
