-- `placed`: what is passed, joined to what is still to be passed.
use Rattle.query_line.proofs.Steps.{all_start, all_end, all_more}
use Rattle.query_line.proofs.placed.Goals as goal

pub loop-n-init : goal.loop-n-init
loop-n-init c = search all_start

pub loop-n-preserved : goal.loop-n-preserved
loop-n-preserved c = search all_more

pub returns : goal.returns
returns c = search all_end
