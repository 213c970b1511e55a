-- `unfitting`: each end by what was tested.
use Rattle.query_line.proofs.Steps.{unfitting_ends}
use Rattle.query_line.proofs.unfitting.Goals as goal

pub returns-then-size-eq0 : goal.returns-then-size-eq0
returns-then-size-eq0 c = search unfitting_ends

pub returns-then-offset-eq0 : goal.returns-then-offset-eq0
returns-then-offset-eq0 c = search unfitting_ends

pub returns : goal.returns
returns c = search unfitting_ends
