use borrow.Author.Rules.{rules}
use Rattle.nodes.proofs.Links.{Walk_Ends}
use Rattle.figures.proofs.Evaluating.{lead_none, lead_made}
use Rattle.figures.proofs.leading.Goals as goal

pub returns-then-j-stop : goal.returns-then-j-stop
returns-then-j-stop c = search lead_none

pub loop-b-init : goal.loop-b-init
loop-b-init c = search (Walk_Ends, rules)

pub loop-b-smaller : goal.loop-b-smaller
loop-b-smaller c = search (Walk_Ends, rules)

pub loop-b-preserved : goal.loop-b-preserved
loop-b-preserved c = search (Walk_Ends, rules)

pub returns : goal.returns
returns c = search (lead_made, Walk_Ends, rules)
