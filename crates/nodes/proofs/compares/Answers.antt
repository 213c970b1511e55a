use Rattle.nodes.proofs.Tests.{compare_ends}
use Rattle.nodes.proofs.compares.Goals as goal

pub returns-then-n-eq0 : goal.returns-then-n-eq0
returns-then-n-eq0 c = search compare_ends

pub returns : goal.returns
returns c = search compare_ends
