use Rattle.conditions.proofs.Leaves.{undeclared_ends}
use Rattle.conditions.proofs.undeclared.Goals as goal

pub returns-then-left-eq-UNKNOWN : goal.returns-then-left-eq-UNKNOWN
returns-then-left-eq-UNKNOWN c = search undeclared_ends

pub returns : goal.returns
returns c = search undeclared_ends
