-- `named`: what the nodes passed name, and what those left name.
use Rattle.comparisons.proofs.Naming.{named_ends}
use Rattle.comparisons.proofs.named.Goals as goal

pub loop-at-init : goal.loop-at-init
loop-at-init c = search named_ends

pub loop-at-smaller : goal.loop-at-smaller
loop-at-smaller c = search named_ends

pub loop-at-preserved : goal.loop-at-preserved
loop-at-preserved c = search named_ends

pub returns : goal.returns
returns c = search named_ends
