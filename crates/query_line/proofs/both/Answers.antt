-- `both`: by the first bit, and else by the second.
use Rattle.query_line.proofs.Steps.{both_ends}
use Rattle.query_line.proofs.both.Goals as goal

pub returns-then-not-shows : goal.returns-then-not-shows
returns-then-not-shows c = search both_ends

pub returns : goal.returns
returns c = search both_ends
