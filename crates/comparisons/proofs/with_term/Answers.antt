-- `with_term`: a code up to that of the time is one bit.
use Rattle.comparisons.proofs.Naming.{term_ends}
use Rattle.comparisons.proofs.with_term.Goals as goal

pub returns-then-code-gt-TIME : goal.returns-then-code-gt-TIME
returns-then-code-gt-TIME c = search term_ends

pub returns : goal.returns
returns c = search term_ends
