-- `with_rows`: the first becomes the second.
use Rattle.needs.proofs.Makes.{side_ends}
use Rattle.needs.proofs.Sides.with_rows.Goals as goal

pub returns : goal.returns
returns c = search side_ends
