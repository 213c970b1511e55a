-- `opens`: the four tests added up.
use Rattle.routes.proofs.Opened.{bits_added}
use Rattle.routes.proofs.opens.Goals as goal

pub returns : goal.returns
returns c = search bits_added
