-- `with_rows`: by its fields.
use Rattle.plan.specs.Plans.{with_rows}
use Rattle.plan.proofs.Plan.with_rows.Goals as goal

pub returns : goal.returns
unfolding with_rows
returns c = cc
