use Rattle.grant_line.proofs.Parts.{star_ends}
use Rattle.grant_line.proofs.star_at.Goals as goal

pub returns-in_err-w : goal.returns-in_err-w
returns-in_err-w c = search (star_ends, c.in_err-w.ensures)

pub returns-then-w-ne-STAR : goal.returns-then-w-ne-STAR
returns-then-w-ne-STAR c = search (star_ends, c.in_ok-w.ensures)

pub returns-in_err-end : goal.returns-in_err-end
returns-in_err-end c = search (star_ends, c.in_ok-w.ensures, c.in_err-end.ensures)

pub returns : goal.returns
returns c = search (star_ends, c.in_ok-w.ensures, c.in_ok-end.ensures)
