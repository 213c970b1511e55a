use Rattle.grant_line.proofs.Parts.{holder_ends}
use Rattle.grant_line.proofs.holder_at.Goals as goal

pub returns-in_err-p : goal.returns-in_err-p
returns-in_err-p c = search (holder_ends, c.in_err-p.ensures)

pub returns-in_err-n : goal.returns-in_err-n
returns-in_err-n c = search (holder_ends, c.in_ok-p.ensures, c.in_err-n.ensures)

pub returns-in_err-q : goal.returns-in_err-q
returns-in_err-q c = search (holder_ends, c.in_ok-p.ensures, c.in_ok-n.ensures, c.in_err-q.ensures)

pub returns-in_err-w : goal.returns-in_err-w
returns-in_err-w c = search (holder_ends, c.in_ok-p.ensures, c.in_ok-n.ensures, c.in_ok-q.ensures, c.in_err-w.ensures)

pub returns-in_err-right : goal.returns-in_err-right
returns-in_err-right c = search (holder_ends, c.in_ok-p.ensures, c.in_ok-n.ensures, c.in_ok-q.ensures, c.in_ok-w.ensures, c.in_err-right.ensures)

pub returns : goal.returns
returns c = search (holder_ends, c.in_ok-p.ensures, c.in_ok-n.ensures, c.in_ok-q.ensures, c.in_ok-w.ensures, c.in_ok-right.ensures)
