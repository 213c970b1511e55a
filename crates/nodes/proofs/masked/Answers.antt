use Rattle.nodes.proofs.Tests.{mask_ends}
use Rattle.nodes.proofs.masked.Goals as goal

pub returns-then-code-ge-TIME : goal.returns-then-code-ge-TIME
returns-then-code-ge-TIME c = search mask_ends

pub returns : goal.returns
returns c = search mask_ends
