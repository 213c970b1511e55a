-- `unread`: by its fields.
use Rattle.caller.proofs.LineParts.{unread_made}
use Rattle.caller.proofs.unread.Goals as goal

pub returns : goal.returns
returns c = search unread_made
