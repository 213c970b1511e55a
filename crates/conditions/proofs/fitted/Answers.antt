use Rattle.conditions.proofs.Leaves.{fitted_ends}
use Rattle.conditions.proofs.fitted.Goals as goal

pub returns-then-i : goal.returns-then-i
returns-then-i c = search fitted_ends

pub returns-then-i-gt-MOST : goal.returns-then-i-gt-MOST
returns-then-i-gt-MOST c = search fitted_ends

pub returns-then-room-i : goal.returns-then-room-i
returns-then-room-i c = search fitted_ends

pub returns : goal.returns
returns c = search fitted_ends
