-- `with_keep`: by its fields.
use Rattle.plan.specs.Plans.{with_keep}
use Rattle.plan.proofs.Plan.with_keep.Goals as goal

pub returns : goal.returns
unfolding with_keep
returns c = cc
