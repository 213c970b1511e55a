-- `unread`: by its fields.
use Rattle.stream_line.specs.Declaring.{unread_line}
use Rattle.stream_line.proofs.unread.Goals as goal

pub returns : goal.returns
unfolding unread_line
returns c = rw c.unread.ensures
