-- `Plan::new`: by its fields.
use Rattle.plan.specs.Plans.{no_plan}
use Rattle.plan.proofs.Plan.new.Goals as goal

pub returns : goal.returns
unfolding no_plan
returns c = cc
