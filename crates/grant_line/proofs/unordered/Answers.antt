use Rattle.grant_line.proofs.Tests.{unordered_ends}
use Rattle.grant_line.proofs.unordered.Goals as goal

pub returns-then-f-eq-NONE : goal.returns-then-f-eq-NONE
returns-then-f-eq-NONE c = search unordered_ends

pub returns : goal.returns
returns c = search unordered_ends
