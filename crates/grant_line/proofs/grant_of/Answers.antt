use Rattle.grant_line.proofs.Tests.{grant_ends}
use Rattle.grant_line.proofs.grant_of.Goals as goal

pub returns-then-w : goal.returns-then-w
returns-then-w c = search grant_ends

pub returns-else-w : goal.returns-else-w
returns-else-w c = search grant_ends
