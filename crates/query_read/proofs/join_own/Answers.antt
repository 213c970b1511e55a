-- `join_own`: by its fields.
use Rattle.query_read.proofs.Leaves.{join_made}
use Rattle.query_read.proofs.join_own.Goals as goal

pub returns : goal.returns
returns c = search join_made
