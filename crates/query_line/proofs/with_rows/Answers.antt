-- `with_rows`: by its fields.
use Rattle.query_line.proofs.Steps.{rows_made}
use Rattle.query_line.proofs.with_rows.Goals as goal

pub returns : goal.returns
returns c = search rows_made
