use Rattle.nodes.proofs.Words.{node_ends}
use Rattle.nodes.proofs.unpacked.Goals as goal

pub returns : goal.returns
returns c = search node_ends
