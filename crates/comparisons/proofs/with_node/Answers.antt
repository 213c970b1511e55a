-- `with_node`: the codes of both terms.
use Rattle.comparisons.proofs.Naming.{node_ends}
use Rattle.comparisons.proofs.with_node.Goals as goal

pub returns-then-not-compares : goal.returns-then-not-compares
returns-then-not-compares c = search node_ends

pub returns : goal.returns
returns c = search node_ends
