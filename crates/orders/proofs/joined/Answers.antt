-- `joined`: the second order, turned and turned back.
use Rattle.orders.proofs.Turns.{joined_turned}
use Rattle.orders.proofs.joined.Goals as goal

pub returns : goal.returns
returns c = search (joined_turned)
