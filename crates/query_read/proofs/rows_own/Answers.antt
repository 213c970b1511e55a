-- `rows_own`: by its fields.
use Rattle.query_read.proofs.Leaves.{rows_made}
use Rattle.query_read.proofs.rows_own.Goals as goal

pub returns : goal.returns
returns c = search rows_made
