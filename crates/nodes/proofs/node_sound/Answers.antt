use Rattle.nodes.proofs.Tests.{sound_ends}
use Rattle.nodes.proofs.node_sound.Goals as goal

pub returns-then-not-links_well : goal.returns-then-not-links_well
returns-then-not-links_well c = search sound_ends

pub returns-then-not-compares : goal.returns-then-not-compares
returns-then-not-compares c = search sound_ends

pub returns : goal.returns
returns c = search sound_ends
