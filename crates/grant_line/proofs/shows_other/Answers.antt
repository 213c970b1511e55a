use Rattle.grant_line.proofs.Tests.{shows_ends}
use Rattle.grant_line.proofs.shows_other.Goals as goal

pub returns-then-w : goal.returns-then-w
returns-then-w c = search shows_ends

pub returns : goal.returns
returns c = search shows_ends
