-- `with_join`: by its fields.
use Rattle.plan.specs.Plans.{with_join}
use Rattle.plan.proofs.Plan.with_join.Goals as goal

pub returns : goal.returns
unfolding with_join
returns c = cc
