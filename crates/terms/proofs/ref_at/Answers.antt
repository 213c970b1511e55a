-- `ref_at`: by its first name and what follows it.
use Rattle.terms.proofs.References.{ref_ends}
use Rattle.terms.proofs.ref_at.Goals as goal

pub returns-in_err-n : goal.returns-in_err-n
returns-in_err-n c = search (ref_ends, c.in_err-n.ensures)

pub returns-in_err-m : goal.returns-in_err-m
returns-in_err-m c = search (ref_ends, c.in_ok-n.ensures, c.in-Some.ensures, c.in_err-m.ensures)

pub returns-in-Some : goal.returns-in-Some
returns-in-Some c = search (ref_ends, c.in_ok-n.ensures, c.in-Some.ensures, c.in_ok-m.ensures)

pub returns-then-n : goal.returns-then-n
returns-then-n c = search (ref_ends, c.in_ok-n.ensures, c.in_default.ensures)

pub returns-then-n-eq-TIME : goal.returns-then-n-eq-TIME
returns-then-n-eq-TIME c = search (ref_ends, c.in_ok-n.ensures, c.in_default.ensures)

pub returns-then-n-eq-FIGURE : goal.returns-then-n-eq-FIGURE
returns-then-n-eq-FIGURE c = search (ref_ends, c.in_ok-n.ensures, c.in_default.ensures)

pub returns : goal.returns
returns c = search (ref_ends, c.in_ok-n.ensures, c.in_default.ensures)
