-- `with_outer`: the second stays.
use Rattle.needs.proofs.Makes.{side_ends}
use Rattle.needs.proofs.Sides.with_outer.Goals as goal

pub returns : goal.returns
returns c = search side_ends
