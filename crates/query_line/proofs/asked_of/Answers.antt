-- `asked_of`: by its fields.
use Rattle.query_line.proofs.Steps.{asked_made}
use Rattle.query_line.proofs.asked_of.Goals as goal

pub returns : goal.returns
returns c = search asked_made
