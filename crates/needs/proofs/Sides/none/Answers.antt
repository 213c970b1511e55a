-- `none`: both alike.
use Rattle.needs.proofs.Makes.{side_ends}
use Rattle.needs.proofs.Sides.none.Goals as goal

pub returns : goal.returns
returns c = search side_ends
