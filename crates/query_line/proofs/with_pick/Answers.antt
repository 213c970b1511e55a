-- `with_pick`: by its fields.
use Rattle.query_line.proofs.Steps.{pick_made}
use Rattle.query_line.proofs.with_pick.Goals as goal

pub returns : goal.returns
returns c = search pick_made
