use borrow.Author.Rules.{rules}
use Rattle.route_plan.proofs.Ends.{granted_made}
use Rattle.route_plan.proofs.granted_in.Goals as goal

pub returns : goal.returns
returns c = search (granted_made, rules)
