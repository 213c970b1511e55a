-- `with_shown`: the mask has the column or not.
use Rattle.orders.proofs.Turns.{shown_ends}
use Rattle.orders.proofs.with_shown.Goals as goal

pub returns-then-shows : goal.returns-then-shows
returns-then-shows c = search shown_ends

pub returns : goal.returns
returns c = search shown_ends
