use mathlib.Core.Path.{refl}
use Rattle.nodes.proofs.Tests.{all_ends}
use Rattle.nodes.proofs.all_sound.Goals as goal

pub loop-k-init : goal.loop-k-init
loop-k-init c = refl

pub returns-then-not-node_sound : goal.returns-then-not-node_sound
returns-then-not-node_sound c = search all_ends

pub loop-k-smaller : goal.loop-k-smaller
loop-k-smaller c = search all_ends

pub loop-k-preserved : goal.loop-k-preserved
loop-k-preserved c = search all_ends

pub returns : goal.returns
returns c = search all_ends
