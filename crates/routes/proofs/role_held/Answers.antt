-- `role_held`: what `contains` gives.
use mathlib.Core.Path.{◌∙◌}
use native.Mathlib.Omega.{arith}
use Rattle.routes.proofs.Opened.{role_told}
use Rattle.routes.proofs.role_held.Goals as goal

pub returns : goal.returns
returns c = c.contains.ensures.value ∙ role_told c.args.role c.args.roles.now (omega arith) (λ i. omega (arith, c.type_inv.roles i))
