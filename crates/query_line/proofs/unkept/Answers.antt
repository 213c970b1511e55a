-- `unkept`: each end by what was tested.
use Rattle.query_line.proofs.Steps.{unkept_ends}
use Rattle.query_line.proofs.unkept.Goals as goal

pub returns-then-t : goal.returns-then-t
returns-then-t c = search unkept_ends

pub returns : goal.returns
returns c = search unkept_ends
