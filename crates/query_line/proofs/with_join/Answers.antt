-- `with_join`: by its fields.
use Rattle.query_line.proofs.Steps.{join_made}
use Rattle.query_line.proofs.with_join.Goals as goal

pub returns : goal.returns
returns c = search join_made
