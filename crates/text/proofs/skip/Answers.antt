-- `skip`: by the byte at the place.
use Rattle.text.proofs.Views.{skip_ends}
use Rattle.text.proofs.skip.Goals as goal

pub returns-then-s-at : goal.returns-then-s-at
returns-then-s-at c = search skip_ends

pub returns-then-s-at-2 : goal.returns-then-s-at-2
returns-then-s-at-2 c = search skip_ends

pub returns : goal.returns
returns c = search skip_ends
