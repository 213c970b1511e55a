use Rattle.grant.proofs.Tests.{shown_ends}
use Rattle.grant.proofs.Grant.shown_sound.Goals as goal

pub returns-then-self-eq0 : goal.returns-then-self-eq0
returns-then-self-eq0 c = search shown_ends

pub returns : goal.returns
returns c = search shown_ends
