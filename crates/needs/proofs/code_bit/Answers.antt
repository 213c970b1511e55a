-- `code_bit`: by its two cases.
use Rattle.needs.proofs.Makes.{bit_ends}
use Rattle.needs.proofs.code_bit.Goals as goal

pub returns-then-code-ge-TIME : goal.returns-then-code-ge-TIME
returns-then-code-ge-TIME c = search bit_ends

pub returns : goal.returns
returns c = search bit_ends
