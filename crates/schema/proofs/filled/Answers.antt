-- `filled`: the numbers passed are not 0.
use Rattle.schema.proofs.Places.{filled_ends}
use Rattle.schema.proofs.filled.Goals as goal

pub loop-i-init : goal.loop-i-init
loop-i-init c = search filled_ends

pub returns-then-number_at-eq0 : goal.returns-then-number_at-eq0
returns-then-number_at-eq0 c = search filled_ends

pub loop-i-preserved : goal.loop-i-preserved
loop-i-preserved c = search filled_ends

pub returns : goal.returns
returns c = search filled_ends
