-- `aggregate_own`: by its fields.
use Rattle.query_read.proofs.Leaves.{aggregate_made}
use Rattle.query_read.proofs.aggregate_own.Goals as goal

pub returns : goal.returns
returns c = search aggregate_made
