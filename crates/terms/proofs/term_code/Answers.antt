-- `term_code`: by the two names.
use Rattle.terms.proofs.Codes.{code_ends}
use Rattle.terms.proofs.term_code.Goals as goal

pub returns-then-n-eq-TIME : goal.returns-then-n-eq-TIME
returns-then-n-eq-TIME c = search code_ends

pub returns-then-m-eq0 : goal.returns-then-m-eq0
returns-then-m-eq0 c = search code_ends

pub returns-then-n-eq-SELF : goal.returns-then-n-eq-SELF
returns-then-n-eq-SELF c = search code_ends

pub returns : goal.returns
returns c = search code_ends
