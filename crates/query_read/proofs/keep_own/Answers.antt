-- `keep_own`: by its fields.
use Rattle.query_read.proofs.Leaves.{keep_made}
use Rattle.query_read.proofs.keep_own.Goals as goal

pub returns : goal.returns
returns c = search keep_made
