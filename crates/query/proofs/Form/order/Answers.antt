-- `order`: of its two halves.
use mathlib.Core.Path.{refl}
use Rattle.query.specs.Forms.{form_order}
use Rattle.query.proofs.Form.order.Goals as goal

pub returns : goal.returns
unfolding form_order
returns c = refl
