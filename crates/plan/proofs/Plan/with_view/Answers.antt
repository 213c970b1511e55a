-- `with_view`: by its fields.
use Rattle.plan.specs.Plans.{with_view}
use Rattle.plan.proofs.Plan.with_view.Goals as goal

pub returns : goal.returns
unfolding with_view
returns c = cc
