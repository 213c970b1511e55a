-- `new`: no bit and no number.
use mathlib.Core.Path.{refl}
use Rattle.routes.specs.Listing.{none_open}
use Rattle.routes.proofs.Open.new.Goals as goal

pub returns : goal.returns
unfolding none_open
returns c = refl
