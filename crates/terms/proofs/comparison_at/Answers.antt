-- `comparison_at`: by the bytes around its two sides.
use Rattle.terms.proofs.Comparisons.{test_ends}
use Rattle.terms.proofs.comparison_at.Goals as goal

pub returns-in_err-p : goal.returns-in_err-p
returns-in_err-p c = search (test_ends, c.in_err-p.ensures)

pub returns-in_err-l : goal.returns-in_err-l
returns-in_err-l c = search (test_ends, c.in_ok-p.ensures, c.in_err-l.ensures)

pub returns-in_err-q : goal.returns-in_err-q
returns-in_err-q c = search (test_ends, c.in_ok-p.ensures, c.in_ok-l.ensures, c.in_err-q.ensures)

pub returns-in_err-t : goal.returns-in_err-t
returns-in_err-t c = search (test_ends, c.in_ok-p.ensures, c.in_ok-l.ensures, c.in_ok-q.ensures, c.in_err-t.ensures)

pub returns-in_err-end : goal.returns-in_err-end
returns-in_err-end c = search (test_ends, c.in_ok-p.ensures, c.in_ok-l.ensures, c.in_ok-q.ensures, c.in_ok-t.ensures, c.in_err-end.ensures)

pub returns : goal.returns
returns c = search (test_ends, c.in_ok-p.ensures, c.in_ok-l.ensures, c.in_ok-q.ensures, c.in_ok-t.ensures, c.in_ok-end.ensures)
