-- `pick_own`: by its fields.
use Rattle.query_read.proofs.Leaves.{pick_made}
use Rattle.query_read.proofs.pick_own.Goals as goal

pub returns : goal.returns
returns c = search pick_made
