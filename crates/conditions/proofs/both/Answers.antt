use Rattle.conditions.proofs.Leaves.{both_ends}
use Rattle.conditions.proofs.both.Goals as goal

pub returns-then-i : goal.returns-then-i
returns-then-i c = search both_ends

pub returns-then-j : goal.returns-then-j
returns-then-j c = search both_ends

pub returns : goal.returns
returns c = search both_ends
