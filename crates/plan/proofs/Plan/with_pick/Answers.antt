-- `with_pick`: the place stored, or no room for it.
use Rattle.plan.proofs.Steps.{pick_ends}
use Rattle.plan.proofs.Plan.with_pick.Goals as goal

pub returns-then-n-ge-PICKS : goal.returns-then-n-ge-PICKS
returns-then-n-ge-PICKS c = search pick_ends

pub returns : goal.returns
returns c = search pick_ends
