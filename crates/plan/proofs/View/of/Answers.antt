-- `View::of`: by its fields.
use mathlib.Core.Path.{refl}
use Rattle.plan.specs.Plans.{view_of}
use Rattle.plan.proofs.View.of.Goals as goal

pub returns : goal.returns
unfolding view_of
returns c = refl
