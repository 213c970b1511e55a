use Rattle.nodes.proofs.Tests.{nodes_ends}
use Rattle.nodes.proofs.nodes_sound.Goals as goal

pub returns-then-not-all_sound : goal.returns-then-not-all_sound
returns-then-not-all_sound c = search nodes_ends

pub returns-then-not-reaches_stop : goal.returns-then-not-reaches_stop
returns-then-not-reaches_stop c = search nodes_ends

pub returns : goal.returns
returns c = search nodes_ends
