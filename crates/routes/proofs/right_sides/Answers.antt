-- `right_sides`: by its two cases.
use Rattle.routes.proofs.Listed.{right_ends}
use Rattle.routes.proofs.right_sides.Goals as goal

pub returns-then-g : goal.returns-then-g
returns-then-g c = search right_ends

pub returns : goal.returns
returns c = search right_ends
