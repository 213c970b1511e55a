-- `on_two`: the count, then the streams.
use Rattle.routes.proofs.Opened.{stream_ends}
use Rattle.routes.proofs.on_two.Goals as goal

pub returns-then-g-ne2 : goal.returns-then-g-ne2
returns-then-g-ne2 c = search stream_ends

pub returns-then-g-s : goal.returns-then-g-s
returns-then-g-s c = search stream_ends

pub returns : goal.returns
returns c = search stream_ends
