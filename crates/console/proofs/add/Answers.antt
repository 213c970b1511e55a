use mathlib.Core.Path.{refl}
use lib.ListN.{length}
use Rattle.console.proofs.Printing.{text_added}
use borrow.Author.Rules.{rules}
use Rattle.console.proofs.add.Goals as goal

pub returns : goal.returns
returns g c = (text_added _ _ c.args.o.used c.args.out.now c.made_room-room.ensures.0 (length c.args.out.now) refl c.write_outcome-n.ensures (search rules), c.made_room-room.ensures.1)
