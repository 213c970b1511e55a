-- `begun`: by its fields.
use Rattle.query_line.proofs.Steps.{begun_made}
use Rattle.query_line.proofs.begun.Goals as goal

pub returns : goal.returns
returns c = search begun_made
