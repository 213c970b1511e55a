-- `packed`: by its definition.
use mathlib.Core.Path.{refl}
use Rattle.routes.specs.Listing.{packed}
use Rattle.routes.proofs.Route.packed.Goals as goal

pub returns : goal.returns
unfolding packed
returns c = refl
