use Rattle.grant_line.proofs.Parts.{listed_fits, show_ends}
use Rattle.grant_line.proofs.show_at.Goals as goal

pub returns-in_err-p : goal.returns-in_err-p
returns-in_err-p c = search (show_ends, c.in_err-p.ensures)

pub returns-in_err-first : goal.returns-in_err-first
returns-in_err-first c = search (show_ends, c.in_ok-p.ensures, c.in_err-first.ensures)

pub returns-then-byte-eq42 : goal.returns-then-byte-eq42
returns-then-byte-eq42 c = search (show_ends, c.in_ok-p.ensures, c.in_ok-first.ensures)

pub returns-in_err-c : goal.returns-in_err-c
returns-in_err-c c = search (show_ends, c.in_ok-p.ensures, c.in_ok-first.ensures, c.in_err-c.ensures)

pub overflow_add-c : goal.overflow_add-c
overflow_add-c c = search (listed_fits, c.in_ok-p.ensures, c.in_ok-first.ensures, c.in_ok-c.ensures)

pub returns : goal.returns
returns c = search (show_ends, c.in_ok-p.ensures, c.in_ok-first.ensures, c.in_ok-c.ensures)
