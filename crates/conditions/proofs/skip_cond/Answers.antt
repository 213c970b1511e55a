use Rattle.text.proofs.Places.{next_fits}
use Rattle.conditions.proofs.Skipping.{skip_ends}
use Rattle.conditions.proofs.skip_cond.Goals as goal

pub loop-p-init : goal.loop-p-init
loop-p-init c = search skip_ends

pub returns-in_err-h : goal.returns-in_err-h
returns-in_err-h c = search (skip_ends, c.in_err-h.ensures)

pub returns-in_err-c : goal.returns-in_err-c
returns-in_err-c c = search (skip_ends, c.in_ok-h.ensures, c.in_err-c.ensures)

pub returns-in_err-k : goal.returns-in_err-k
returns-in_err-k c = search (skip_ends, c.in_ok-h.ensures, c.in_ok-c.ensures, c.in_err-k.ensures)

pub returns-in-Ended : goal.returns-in-Ended
returns-in-Ended c = search (skip_ends, c.in_ok-h.ensures, c.in_ok-c.ensures, c.in_ok-k.ensures)

pub loop-p-smaller-in-Next : goal.loop-p-smaller-in-Next
loop-p-smaller-in-Next c = search (skip_ends, c.in_ok-h.ensures, c.in_ok-c.ensures, c.in_ok-k.ensures)

pub loop-p-preserved-in-Next : goal.loop-p-preserved-in-Next
loop-p-preserved-in-Next c = search (skip_ends, c.in_ok-h.ensures, c.in_ok-c.ensures, c.in_ok-k.ensures)

pub returns-then-byte-ne32 : goal.returns-then-byte-ne32
returns-then-byte-ne32 c = search (skip_ends, c.in_ok-h.ensures)

pub overflow_add-p : goal.overflow_add-p
overflow_add-p c = search next_fits

pub loop-p-smaller : goal.loop-p-smaller
loop-p-smaller c = search (skip_ends, c.in_ok-h.ensures)

pub loop-p-preserved : goal.loop-p-preserved
loop-p-preserved c = search (skip_ends, c.in_ok-h.ensures)

pub returns : goal.returns
returns c = search skip_ends
