-- `side_opened`: test by test.
use Rattle.routes.proofs.Opened.{side_ends}
use Rattle.routes.proofs.side_opened.Goals as goal

pub returns-then-g-ne-READ : goal.returns-then-g-ne-READ
returns-then-g-ne-READ c = search side_ends

pub returns-then-not-on_one : goal.returns-then-not-on_one
returns-then-not-on_one c = search side_ends

pub returns : goal.returns
returns c = search side_ends
