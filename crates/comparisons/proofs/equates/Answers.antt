-- `equates`: no condition passed is the equality.
use Rattle.comparisons.proofs.Equated.{equated_ends}
use Rattle.comparisons.proofs.equates.Goals as goal

pub loop-j-init : goal.loop-j-init
loop-j-init c = search equated_ends

pub returns-then-node_equates : goal.returns-then-node_equates
returns-then-node_equates c = search equated_ends

pub loop-j-smaller : goal.loop-j-smaller
loop-j-smaller c = search equated_ends

pub loop-j-preserved : goal.loop-j-preserved
loop-j-preserved c = search equated_ends

pub returns : goal.returns
returns c = search equated_ends
