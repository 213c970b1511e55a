-- `stands`: what `contains` gives of the part, by places.
use mathlib.Core.Path.{ap, ◌∙◌}
use native.Mathlib.Omega.{arith}
use Prim.Native.Nat.{◌+◌, ◌-◌}
use lib.Dec.{eqb}
use Rattle.lists.proofs.Chains.{any_part}
use Rattle.schema.specs.Schemas.{stands}
use Rattle.schema.proofs.stands.Goals as goal

pub returns : goal.returns
unfolding stands
returns c =
    let ns = c.args.names.now in
    let at = c.args.at in
    let n = c.args.n in
    let code = c.args.code in
    let q = c.requires in
    c.contains.ensures.value ∙ any_part 0 (λ x. eqb x code) ns at (at + n - at) (omega arith) ∙ ap (λ m. stands ns at m code) (omega arith)
