-- `gate`: part by part.
use mathlib.Core.Path.{refl}
use Rattle.routes.specs.Listing.{gate_of}
use Rattle.routes.proofs.Open.gate.Goals as goal

pub returns : goal.returns
unfolding gate_of
returns c = refl
