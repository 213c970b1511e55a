use mathlib.Core.Path.{refl}
use Rattle.console.proofs.Rooms.{not_lost}
use Rattle.console.proofs.flush.Goals as goal

pub returns : goal.returns
returns g c = (refl, not_lost c.if-o.false)
