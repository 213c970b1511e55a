-- `ref_term`: by what stands there.
use Rattle.terms.proofs.Operands.{ref_term_ends}
use Rattle.terms.proofs.ref_term.Goals as goal

pub returns-in_err-r : goal.returns-in_err-r
returns-in_err-r c = search (ref_term_ends, c.in_err-r.ensures)

pub returns : goal.returns
returns c = search (ref_term_ends, c.in_ok-r.ensures)
