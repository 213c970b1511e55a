-- `with_aggregate`: by its fields.
use mathlib.Core.Path.{refl}
use Rattle.plan.specs.Plans.{with_aggregate}
use Rattle.plan.proofs.Plan.with_aggregate.Goals as goal

pub returns : goal.returns
unfolding with_aggregate
returns c = refl
