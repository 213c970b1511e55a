-- `caller_of`: by its fields.
use Rattle.caller.proofs.LineParts.{caller_put}
use Rattle.caller.proofs.caller_of.Goals as goal

pub returns : goal.returns
returns c = search caller_put
