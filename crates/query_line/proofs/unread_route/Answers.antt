-- `unread_route`: by its fields.
use Rattle.query_line.proofs.Steps.{routed_nothing}
use Rattle.query_line.proofs.unread_route.Goals as goal

pub returns : goal.returns
returns c = search routed_nothing
