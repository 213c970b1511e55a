-- `with_grant`: part by part.
use Rattle.routes.proofs.Listed.{opened_ends}
use Rattle.routes.proofs.Open.with_grant.Goals as goal

pub returns-then-place-ge-PLACES : goal.returns-then-place-ge-PLACES
returns-then-place-ge-PLACES c = search opened_ends

pub returns : goal.returns
returns c = search opened_ends
