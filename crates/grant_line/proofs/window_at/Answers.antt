use Rattle.grant_line.proofs.Times.{window_ends}
use Rattle.grant_line.proofs.window_at.Goals as goal

pub returns-in_default : goal.returns-in_default
returns-in_default c = search (window_ends, c.in_default.ensures)

pub returns : goal.returns
returns c = search (window_ends, c.in-Some.ensures)
