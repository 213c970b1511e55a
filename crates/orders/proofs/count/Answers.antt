-- `count`: the columns passed from the end and those that are left.
use Rattle.orders.proofs.Turns.{count_ends}
use Rattle.orders.proofs.count.Goals as goal

pub loop-n-init : goal.loop-n-init
loop-n-init c = search count_ends

pub returns-then-m-eq0 : goal.returns-then-m-eq0
returns-then-m-eq0 c = search count_ends

pub loop-n-preserved : goal.loop-n-preserved
loop-n-preserved c = search count_ends

pub returns : goal.returns
returns c = search count_ends
