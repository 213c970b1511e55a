-- `unread`: by its fields.
use Rattle.query_line.proofs.Steps.{asked_nothing}
use Rattle.query_line.proofs.unread.Goals as goal

pub returns : goal.returns
returns c = search asked_nothing
