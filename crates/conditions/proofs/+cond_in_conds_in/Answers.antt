-- `cond_in` and `conds_in`: by the head, and by what follows each condition.
use Rattle.conditions.proofs.Conditions.{in_few, cond_ends}
use Rattle.conditions.proofs.Going.{conds_ends}
use Rattle.conditions.proofs.+cond_in_conds_in.Goals as goal

pub cond_in-returns-then-level-eq0 : goal.cond_in-returns-then-level-eq0
cond_in-returns-then-level-eq0 t c = search cond_ends

pub cond_in-returns-in_err-h : goal.cond_in-returns-in_err-h
cond_in-returns-in_err-h t c = search (cond_ends, c.in_err-h.ensures)

pub cond_in-returns-then-n-lt-AND : goal.cond_in-returns-then-n-lt-AND
cond_in-returns-then-n-lt-AND t c = search (cond_ends, c.in_ok-h.ensures)

pub cond_in-returns-in_err-i : goal.cond_in-returns-in_err-i
cond_in-returns-in_err-i t c = search (cond_ends, c.in_ok-h.ensures, c.in_err-i.ensures)

pub cond_in-closed-requires : goal.cond_in-closed-requires
cond_in-closed-requires t c = search (in_few, c.in_ok-i.ensures)

pub cond_in-returns-then-n-lt-NOT : goal.cond_in-returns-then-n-lt-NOT
cond_in-returns-then-n-lt-NOT t c = search (cond_ends, c.in_ok-h.ensures, c.in_ok-i.ensures)

pub cond_in-returns-then-byte-ne32 : goal.cond_in-returns-then-byte-ne32
cond_in-returns-then-byte-ne32 t c = search (cond_ends, c.in_ok-h.ensures)

pub cond_in-returns-in_err-i-2 : goal.cond_in-returns-in_err-i-2
cond_in-returns-in_err-i-2 t c = search (cond_ends, c.in_ok-h.ensures, c.in_err-i-2.ensures)

pub cond_in-closed-requires-2 : goal.cond_in-closed-requires-2
cond_in-closed-requires-2 t c = search (in_few, c.in_ok-i-2.ensures)

pub cond_in-returns : goal.cond_in-returns
cond_in-returns t c = search (cond_ends, c.in_ok-h.ensures, c.in_ok-i-2.ensures)

pub conds_in-returns-then-byte-ne32 : goal.conds_in-returns-then-byte-ne32
conds_in-returns-then-byte-ne32 t c = search conds_ends

pub conds_in-loop-r-init : goal.conds_in-loop-r-init
conds_in-loop-r-init t c = search conds_ends

pub conds_in-returns-then-s-p-ne32 : goal.conds_in-returns-then-s-p-ne32
conds_in-returns-then-s-p-ne32 t c = search conds_ends

pub conds_in-returns-in_err-i : goal.conds_in-returns-in_err-i
conds_in-returns-in_err-i t c = search (conds_ends, c.in_err-i.ensures)

pub conds_in-loop-r-smaller : goal.conds_in-loop-r-smaller
conds_in-loop-r-smaller t c = search (conds_ends, c.in_ok-i.ensures)

pub conds_in-loop-r-preserved : goal.conds_in-loop-r-preserved
conds_in-loop-r-preserved t c = search (conds_ends, c.in_ok-i.ensures)

pub conds_in-returns : goal.conds_in-returns
conds_in-returns t c = search conds_ends
