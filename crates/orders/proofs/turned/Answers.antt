-- `turned`: the order with the columns passed from the end, and those that are left.
use Rattle.orders.proofs.Turns.{turned_ends}
use Rattle.orders.proofs.turned.Goals as goal

pub loop-n-init : goal.loop-n-init
loop-n-init c = search turned_ends

pub returns-then-rest-eq0 : goal.returns-then-rest-eq0
returns-then-rest-eq0 c = search turned_ends

pub loop-n-preserved : goal.loop-n-preserved
loop-n-preserved c = search turned_ends

pub returns : goal.returns
returns c = search turned_ends
