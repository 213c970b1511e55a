-- `with_join`: part by part.
use Rattle.needs.proofs.Makes.{need_ends}
use Rattle.needs.proofs.Needs.with_join.Goals as goal

pub returns : goal.returns
returns c = search need_ends
