-- `window_opened`: test by test.
use Rattle.routes.proofs.Opened.{window_ends}
use Rattle.routes.proofs.window_opened.Goals as goal

pub returns-then-not-shows : goal.returns-then-not-shows
returns-then-not-shows c = search window_ends

pub returns-then-n-g : goal.returns-then-n-g
returns-then-n-g c = search window_ends

pub returns : goal.returns
returns c = search window_ends
