-- `with_aggregate`: by its fields.
use Rattle.query_line.proofs.Steps.{aggregate_made}
use Rattle.query_line.proofs.with_aggregate.Goals as goal

pub returns : goal.returns
returns c = search aggregate_made
