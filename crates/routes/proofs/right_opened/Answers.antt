-- `right_opened`: test by test.
use Rattle.routes.proofs.Opened.{right_ends}
use Rattle.routes.proofs.right_opened.Goals as goal

pub returns-then-n-eq-NONE : goal.returns-then-n-eq-NONE
returns-then-n-eq-NONE c = search right_ends

pub returns : goal.returns
returns c = search right_ends
