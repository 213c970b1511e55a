use Rattle.grant_line.proofs.Tests.{line_ends}
use Rattle.grant_line.proofs.line_of.Goals as goal

pub returns : goal.returns
returns c = search line_ends
