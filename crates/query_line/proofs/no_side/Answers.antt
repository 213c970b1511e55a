-- `no_side`: by its fields.
use Rattle.query_line.proofs.Steps.{side_nothing}
use Rattle.query_line.proofs.no_side.Goals as goal

pub returns : goal.returns
returns c = search side_nothing
