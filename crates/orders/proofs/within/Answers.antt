-- `within`: those that the mask has, turned and turned back.
use Rattle.orders.proofs.Turns.{within_turned}
use Rattle.orders.proofs.within.Goals as goal

pub returns : goal.returns
returns c = search (within_turned)
