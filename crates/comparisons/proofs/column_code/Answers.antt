-- `column_code`: by its two cases.
use Rattle.comparisons.proofs.Equated.{code_ends}
use Rattle.comparisons.proofs.column_code.Goals as goal

pub returns-then-code-lt-TIME : goal.returns-then-code-lt-TIME
returns-then-code-lt-TIME c = search code_ends

pub returns : goal.returns
returns c = search code_ends
