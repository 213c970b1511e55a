-- `ungrouped`: each end by what was tested.
use Rattle.query_line.proofs.Steps.{ungrouped_ends}
use Rattle.query_line.proofs.ungrouped.Goals as goal

pub returns-then-t : goal.returns-then-t
returns-then-t c = search ungrouped_ends

pub returns : goal.returns
returns c = search ungrouped_ends
