-- `with`: the number in the first place that is free, if there is one.
use Rattle.routes.proofs.Listed.{more_ends}
use Rattle.routes.proofs.Routes.with.Goals as goal

pub returns-then-k-ge-MOST : goal.returns-then-k-ge-MOST
returns-then-k-ge-MOST c = search more_ends

pub returns : goal.returns
returns c = search more_ends
