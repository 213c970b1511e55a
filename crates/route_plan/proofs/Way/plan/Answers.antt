use borrow.Author.Rules.{rules}
use Rattle.route_plan.proofs.Ends.{plan_made}
use Rattle.route_plan.proofs.Way.plan.Goals as goal

pub returns : goal.returns
returns c = search (plan_made, rules)
