use Rattle.conditions.proofs.Leaves.{compared_ends}
use Rattle.conditions.proofs.compared.Goals as goal

pub returns-in_err-c : goal.returns-in_err-c
returns-in_err-c c = search (compared_ends, c.in_err-c.ensures)

pub returns : goal.returns
returns c = search (compared_ends, c.in_ok-c.ensures)
