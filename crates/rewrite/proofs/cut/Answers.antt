-- `cut`: a keep is cut, any other form is as it was.
use Rattle.rewrite.proofs.Turns.{cut_ends}
use Rattle.rewrite.proofs.cut.Goals as goal

pub returns-then-f-eq-KEEP : goal.returns-then-f-eq-KEEP
returns-then-f-eq-KEEP c = search cut_ends

pub returns : goal.returns
returns c = search cut_ends
