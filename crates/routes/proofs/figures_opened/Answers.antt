-- `figures_opened`: test by test.
use Rattle.routes.proofs.Opened.{figures_ends}
use Rattle.routes.proofs.figures_opened.Goals as goal

pub returns-then-n-eq0 : goal.returns-then-n-eq0
returns-then-n-eq0 c = search figures_ends

pub returns-then-g-n : goal.returns-then-g-n
returns-then-g-n c = search figures_ends

pub returns-then-not-on_asked : goal.returns-then-not-on_asked
returns-then-not-on_asked c = search figures_ends

pub returns-then-not-linked_opened : goal.returns-then-not-linked_opened
returns-then-not-linked_opened c = search figures_ends

pub returns-then-n : goal.returns-then-n
returns-then-n c = search figures_ends

pub returns : goal.returns
returns c = search figures_ends
