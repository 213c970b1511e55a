use mathlib.Core.Path.{refl}
use Rattle.nodes.proofs.Tests.{reaches_ends}
use Rattle.nodes.proofs.reaches_stop.Goals as goal

pub loop-at-init : goal.loop-at-init
loop-at-init c = refl

pub loop-at-smaller : goal.loop-at-smaller
loop-at-smaller c = search reaches_ends

pub loop-at-preserved : goal.loop-at-preserved
loop-at-preserved c = search reaches_ends

pub returns : goal.returns
returns c = search reaches_ends
