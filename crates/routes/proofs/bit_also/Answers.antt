-- `bit_also`: by its two cases.
use Rattle.routes.proofs.Listed.{also_ends}
use Rattle.routes.proofs.bit_also.Goals as goal

pub returns-then-shows : goal.returns-then-shows
returns-then-shows c = search also_ends

pub returns : goal.returns
returns c = search also_ends
