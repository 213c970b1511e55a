use borrow.Author.Rules.{rules}
use Rattle.selection.proofs.Relating.{node_ends, node_wide, narrow_ends}
use Rattle.selection.proofs.compare_node.Goals as goal

pub returns-then-is_wide : goal.returns-then-is_wide
returns-then-is_wide c = let a = c.args in node_wide a.sc a.times.now a.values.now a.profile.now a.n c.is_wide.ensures c.if-is_wide.true c.requires.1 c.settled.ensures

pub side_of-l-requires : goal.side_of-l-requires
side_of-l-requires c = search (narrow_ends, rules)

pub side_of-r-requires : goal.side_of-r-requires
side_of-r-requires c = search (narrow_ends, rules)

pub compared-requires : goal.compared-requires
compared-requires c = search (narrow_ends, rules)

pub returns : goal.returns
returns c = search (node_ends, rules)
