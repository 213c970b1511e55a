-- `level`: by whether a bracket may be opened.
use Rattle.query_read.proofs.Leaves.{level_ends}
use Rattle.query_read.proofs.level.Goals as goal

pub returns-then-n-ge-DEPTH : goal.returns-then-n-ge-DEPTH
returns-then-n-ge-DEPTH c = search level_ends

pub returns : goal.returns
returns c = search level_ends
