-- `leaves_some`: by its two cases.
use Rattle.routes.proofs.Listed.{leaves_ends}
use Rattle.routes.proofs.leaves_some.Goals as goal

pub returns-then-g : goal.returns-then-g
returns-then-g c = search leaves_ends

pub returns : goal.returns
returns c = search leaves_ends
