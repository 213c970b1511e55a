-- `mask_of`: the bits of the columns passed from the end, and those of the rest.
use Rattle.orders.proofs.Turns.{mask_ends}
use Rattle.orders.proofs.mask_of.Goals as goal

pub loop-n-init : goal.loop-n-init
loop-n-init c = search mask_ends

pub returns-then-m-eq0 : goal.returns-then-m-eq0
returns-then-m-eq0 c = search mask_ends

pub loop-n-preserved : goal.loop-n-preserved
loop-n-preserved c = search mask_ends

pub returns : goal.returns
returns c = search mask_ends
