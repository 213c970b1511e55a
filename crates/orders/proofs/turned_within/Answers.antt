-- `turned_within`: the order of the columns passed from the end that the mask has, and those that are left.
use Rattle.orders.proofs.Turns.{within_ends}
use Rattle.orders.proofs.turned_within.Goals as goal

pub loop-n-init : goal.loop-n-init
loop-n-init c = search within_ends

pub returns-then-rest-eq0 : goal.returns-then-rest-eq0
returns-then-rest-eq0 c = search within_ends

pub loop-n-preserved : goal.loop-n-preserved
loop-n-preserved c = search within_ends

pub returns : goal.returns
returns c = search within_ends
