-- `linked_opened`: by its two cases.
use Rattle.routes.proofs.Opened.{linked_ends}
use Rattle.routes.proofs.linked_opened.Goals as goal

pub returns-then-n-eq-NONE : goal.returns-then-n-eq-NONE
returns-then-n-eq-NONE c = search linked_ends

pub returns : goal.returns
returns c = search linked_ends
