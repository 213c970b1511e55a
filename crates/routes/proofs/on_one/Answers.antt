-- `on_one`: the count, then the stream.
use Rattle.routes.proofs.Opened.{stream_ends}
use Rattle.routes.proofs.on_one.Goals as goal

pub returns-then-g-ne1 : goal.returns-then-g-ne1
returns-then-g-ne1 c = search stream_ends

pub returns : goal.returns
returns c = search stream_ends
