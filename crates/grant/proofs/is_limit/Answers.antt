use Rattle.grant.proofs.Tests.{limit_ends}
use Rattle.grant.proofs.is_limit.Goals as goal

pub returns-then-n-le-TOP : goal.returns-then-n-le-TOP
returns-then-n-le-TOP c = search limit_ends

pub returns : goal.returns
returns c = search limit_ends
