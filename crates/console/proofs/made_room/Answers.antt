use Rattle.console.proofs.Rooms.{room_ends}
use borrow.Author.Rules.{rules}
use Rattle.console.proofs.made_room.Goals as goal

pub returns-then-out-n-lt-MOST : goal.returns-then-out-n-lt-MOST
returns-then-out-n-lt-MOST g c = (search (c.flush.ensures.0, room_ends, rules), c.flush.ensures.1)

pub returns : goal.returns
returns g c = (search (room_ends, rules), λ h. h)
