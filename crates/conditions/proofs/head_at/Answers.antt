use Rattle.conditions.proofs.Heads.{head_ends}
use Rattle.conditions.proofs.head_at.Goals as goal

pub returns-in_err-p : goal.returns-in_err-p
returns-in_err-p c = search (head_ends, c.in_err-p.ensures)

pub returns-in_err-w : goal.returns-in_err-w
returns-in_err-w c = search (head_ends, c.in_ok-p.ensures, c.in_err-w.ensures)

pub returns-in_err-n : goal.returns-in_err-n
returns-in_err-n c = search (head_ends, c.in_ok-p.ensures, c.in_ok-w.ensures, c.in_err-n.ensures)

pub returns : goal.returns
returns c = search (head_ends, c.in_ok-p.ensures, c.in_ok-w.ensures, c.in_ok-n.ensures)
