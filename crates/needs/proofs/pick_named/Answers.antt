-- `pick_named`: between the link and the place.
use Rattle.needs.proofs.Makes.{column_ends}
use Rattle.needs.proofs.pick_named.Goals as goal

pub returns : goal.returns
returns c = search column_ends
