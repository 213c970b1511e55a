-- `on_asked`: by its two cases.
use Rattle.routes.proofs.Opened.{asked_ends}
use Rattle.routes.proofs.on_asked.Goals as goal

pub returns-then-n-eq-NONE : goal.returns-then-n-eq-NONE
returns-then-n-eq-NONE c = search asked_ends

pub returns : goal.returns
returns c = search asked_ends
