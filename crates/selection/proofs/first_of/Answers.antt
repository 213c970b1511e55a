use borrow.Author.Rules.{rules}
use Rattle.nodes.proofs.Links.{walk_start, walk_on}
use Rattle.selection.proofs.Evaluating.{link_less, leads_none, leads_first}
use Rattle.selection.proofs.first_of.Goals as goal

pub returns-then-j-stop : goal.returns-then-j-stop
returns-then-j-stop c = search (leads_none, leads_first, walk_start, walk_on, rules)

pub loop-b-init : goal.loop-b-init
loop-b-init c = search (leads_none, leads_first, walk_start, walk_on, rules)

pub loop-b-smaller : goal.loop-b-smaller
loop-b-smaller c = search (link_less, rules)

pub loop-b-preserved : goal.loop-b-preserved
loop-b-preserved c = search (leads_none, leads_first, walk_start, walk_on, rules)

pub returns : goal.returns
returns c = search (leads_none, leads_first, walk_start, walk_on, rules)
