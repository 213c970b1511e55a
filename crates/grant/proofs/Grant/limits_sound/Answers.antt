use Rattle.grant.proofs.Tests.{limits_ends}
use Rattle.grant.proofs.Grant.limits_sound.Goals as goal

pub returns-then-not-is_limit : goal.returns-then-not-is_limit
returns-then-not-is_limit c = search limits_ends

pub returns-then-not-is_limit-2 : goal.returns-then-not-is_limit-2
returns-then-not-is_limit-2 c = search limits_ends

pub returns-then-self-eq-NONE : goal.returns-then-self-eq-NONE
returns-then-self-eq-NONE c = search limits_ends

pub returns : goal.returns
returns c = search limits_ends
