-- `with_aggregate`: part by part.
use Rattle.needs.proofs.Makes.{need_ends}
use Rattle.needs.proofs.Needs.with_aggregate.Goals as goal

pub returns : goal.returns
returns c = search need_ends
