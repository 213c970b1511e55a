use borrow.Author.Rules.{rules}
use Rattle.selection.proofs.Evaluating.{compare_ends}
use Rattle.selection.proofs.compare_at.Goals as goal

pub node_of-requires : goal.node_of-requires
node_of-requires c = search (compare_ends, rules)

pub compare_node-requires : goal.compare_node-requires
compare_node-requires c = search (compare_ends, rules)

pub returns : goal.returns
returns c = search (compare_ends, rules)
