-- `streams_at`: what is read so far, joined to what is read on, is what is read from the first place on.
use Rattle.columns.proofs.StreamLists.{streams_ends}
use Rattle.columns.proofs.streams_at.Goals as goal

pub loop-i-init : goal.loop-i-init
loop-i-init c = search streams_ends

pub returns-then-ends_at : goal.returns-then-ends_at
returns-then-ends_at c = search streams_ends

pub returns-in_err-p : goal.returns-in_err-p
returns-in_err-p c = search (streams_ends, c.in_err-p.ensures)

pub returns-in_err-n : goal.returns-in_err-n
returns-in_err-n c = search (streams_ends, c.in_ok-p.ensures, c.in_err-n.ensures)

pub loop-i-smaller : goal.loop-i-smaller
loop-i-smaller c = search (streams_ends, c.in_ok-p.ensures, c.in_ok-n.ensures)

pub loop-i-preserved : goal.loop-i-preserved
loop-i-preserved c = search (streams_ends, c.in_ok-p.ensures, c.in_ok-n.ensures)

pub returns : goal.returns
returns c = search streams_ends
