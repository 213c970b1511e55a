use Rattle.grant.proofs.Tests.{when_ends}
use Rattle.grant.proofs.Grant.when_sound.Goals as goal

pub returns-then-n-gt-PLACE : goal.returns-then-n-gt-PLACE
returns-then-n-gt-PLACE c = search when_ends

pub returns-then-words-n : goal.returns-then-words-n
returns-then-words-n c = search when_ends

pub returns : goal.returns
returns c = search when_ends
