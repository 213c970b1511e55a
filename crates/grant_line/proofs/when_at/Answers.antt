use Rattle.grant_line.proofs.Whens.{when_fits, when_ends}
use Rattle.grant_line.proofs.when_at.Goals as goal

pub returns-in_default : goal.returns-in_default
returns-in_default c = search (when_ends, c.in_default.ensures)

pub returns-in_err-i : goal.returns-in_err-i
returns-in_err-i c = search (when_ends, c.in-Some.ensures, c.in_err-i.ensures)

pub overflow_add-result : goal.overflow_add-result
overflow_add-result c = search (when_fits, c.in-Some.ensures, c.in_ok-i.ensures)

pub returns : goal.returns
returns c = search (when_ends, c.in-Some.ensures, c.in_ok-i.ensures)
