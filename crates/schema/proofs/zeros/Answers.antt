-- `zeros`: what `all` gives over the part, by places.
use mathlib.Core.Path.{ap, ◌∙◌}
use native.Mathlib.Omega.{arith}
use Prim.Native.Nat.{◌+◌, ◌-◌}
use borrow.Author.Rules.{rules}
use borrow.Author.Tests.{tests}
use lib.Dec.{eqb}
use lib.ListN.{take, drop}
use Rattle.std.proofs.lemmas.Iterator.{YieldsList-from_slice}
use Rattle.std.proofs.lemmas.Iterator.Search.{all_from_yields_List}
use Rattle.lists.proofs.Chains.{all_part}
use Rattle.schema.specs.Schemas.{zeros}
use Rattle.schema.proofs.zeros.Goals as goal

pub returns : goal.returns
unfolding zeros
returns c =
    let ns = c.args.names.now in
    let at = c.args.at in
    let n = c.args.n in
    let q = c.requires in
    all_from_yields_List {all = take (at + n - at) (drop at ns)} (λ x. eqb x 0) _ _ _ c.all.ensures.ran (YieldsList-from_slice _ cc) (λ x b q k. search (rules, tests))
    ∙ all_part 0 (λ x. eqb x 0) ns at (at + n - at) (omega arith) ∙ ap (zeros ns at) (omega arith)
