-- `pair_opened`: test by test.
use Rattle.routes.proofs.Opened.{pair_ends}
use Rattle.routes.proofs.pair_opened.Goals as goal

pub returns-then-n-eq-NONE : goal.returns-then-n-eq-NONE
returns-then-n-eq-NONE c = search pair_ends

pub returns-then-g-ne-READ : goal.returns-then-g-ne-READ
returns-then-g-ne-READ c = search pair_ends

pub returns-then-not-on_two : goal.returns-then-not-on_two
returns-then-not-on_two c = search pair_ends

pub returns-then-not-equality_held : goal.returns-then-not-equality_held
returns-then-not-equality_held c = search pair_ends

pub returns-then-n : goal.returns-then-n
returns-then-n c = search pair_ends

pub returns : goal.returns
returns c = search pair_ends
