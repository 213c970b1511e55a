-- `unpicked`: each end by what was tested.
use Rattle.query_line.proofs.Steps.{unpicked_ends}
use Rattle.query_line.proofs.unpicked.Goals as goal

pub returns-then-not-within : goal.returns-then-not-within
returns-then-not-within c = search unpicked_ends

pub returns : goal.returns
returns c = search unpicked_ends
