use Rattle.grant_line.proofs.Tests.{lendable_ends}
use Rattle.grant_line.proofs.lendable.Goals as goal

pub returns-then-not-sound : goal.returns-then-not-sound
returns-then-not-sound c = search lendable_ends

pub returns-then-count-gt-GRANTS : goal.returns-then-count-gt-GRANTS
returns-then-count-gt-GRANTS c = search lendable_ends

pub returns : goal.returns
returns c = search lendable_ends
