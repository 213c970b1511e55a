use borrow.Author.Rules.{rules}
use Rattle.route_plan.proofs.Ends.{way_made}
use Rattle.route_plan.proofs.Way.of.Goals as goal

pub returns : goal.returns
returns c = search (way_made, rules)
