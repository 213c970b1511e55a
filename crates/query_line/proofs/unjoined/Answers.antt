-- `unjoined`: each end by what was tested.
use Rattle.query_line.proofs.Steps.{unjoined_ends}
use Rattle.query_line.proofs.unjoined.Goals as goal

pub returns-then-sideless : goal.returns-then-sideless
returns-then-sideless c = search unjoined_ends

pub returns-then-sideless-2 : goal.returns-then-sideless-2
returns-then-sideless-2 c = search unjoined_ends

pub returns : goal.returns
returns c = search unjoined_ends
