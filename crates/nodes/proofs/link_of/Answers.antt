-- `link_of`: the link of the node there.
use Rattle.nodes.proofs.Tests.{link_met}
use Rattle.nodes.proofs.link_of.Goals as goal

pub returns : goal.returns
returns c = search (link_met)
