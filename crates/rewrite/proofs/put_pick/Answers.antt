-- `put_pick`: a pick is added, any other form not.
use Rattle.rewrite.proofs.Turns.{pick_ends}
use Rattle.rewrite.proofs.put_pick.Goals as goal

pub returns-then-f-eq-PICK : goal.returns-then-f-eq-PICK
returns-then-f-eq-PICK c = search pick_ends

pub returns : goal.returns
returns c = search pick_ends
