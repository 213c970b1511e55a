-- `operand_at`: by the first byte.
use Rattle.terms.proofs.Operands.{operand_ends}
use Rattle.terms.proofs.operand_at.Goals as goal

pub returns-then-not-is_letter : goal.returns-then-not-is_letter
returns-then-not-is_letter c = search operand_ends

pub returns : goal.returns
returns c = search operand_ends
