-- `sideless`: each end by what was tested.
use Rattle.query_line.proofs.Steps.{sideless_ends}
use Rattle.query_line.proofs.sideless.Goals as goal

pub returns-then-t : goal.returns-then-t
returns-then-t c = search sideless_ends

pub returns : goal.returns
returns c = search sideless_ends
