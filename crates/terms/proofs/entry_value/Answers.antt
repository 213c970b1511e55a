-- `entry_value`: by its test.
use Rattle.terms.proofs.Codes.{entry_ends}
use Rattle.terms.proofs.entry_value.Goals as goal

pub returns-then-code-eq-ENTRY : goal.returns-then-code-eq-ENTRY
returns-then-code-eq-ENTRY c = search entry_ends

pub returns : goal.returns
returns c = search entry_ends
