-- `keep_at`: each end by what stands there.
use Rattle.query_read.proofs.Owning.{keep_ends, keep_fits}
use Rattle.query_read.proofs.keep_at.Goals as goal

pub returns-in_err-c : goal.returns-in_err-c
returns-in_err-c c = search (keep_ends, c.in_err-c.ensures)

pub returns-then-p-at : goal.returns-then-p-at
returns-then-p-at c = search (keep_ends, c.in_ok-c.ensures)

pub overflow_add-p : goal.overflow_add-p
overflow_add-p c = search (keep_fits, c.in_ok-c.ensures)

pub returns : goal.returns
returns c = search (keep_ends, c.in_ok-c.ensures)
