-- `equality_held`: as it is called.
use Rattle.routes.proofs.Opened.{equality_is}
use Rattle.routes.proofs.equality_held.Goals as goal

pub returns : goal.returns
returns c = search equality_is
