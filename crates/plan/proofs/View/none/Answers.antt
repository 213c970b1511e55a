-- `View::none`: by its fields.
use mathlib.Core.Path.{refl}
use Rattle.plan.specs.Plans.{no_view}
use Rattle.plan.proofs.View.none.Goals as goal

pub returns : goal.returns
unfolding no_view
returns c = refl
