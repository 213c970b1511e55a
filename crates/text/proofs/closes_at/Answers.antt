-- `closes_at`: by the byte at the place, and whether it is the last.
use Rattle.text.proofs.Keywords.{close_ends}
use Rattle.text.proofs.closes_at.Goals as goal

pub returns-then-s-at : goal.returns-then-s-at
returns-then-s-at c = search close_ends

pub returns-then-s-at-ne41 : goal.returns-then-s-at-ne41
returns-then-s-at-ne41 c = search close_ends

pub returns : goal.returns
returns c = search close_ends
