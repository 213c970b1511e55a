-- `with_keep`: by its fields.
use Rattle.query_line.proofs.Steps.{keep_made}
use Rattle.query_line.proofs.with_keep.Goals as goal

pub returns : goal.returns
returns c = search keep_made
