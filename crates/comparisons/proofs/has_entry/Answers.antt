-- `has_entry`: what `any` gives of the profile's pairs.
use mathlib.Core.Path.{◌∙◌}
use native.Mathlib.Omega.{arith}
use Prim.Native.Nat.{◌/◌}
use borrow.Author.Rules.{rules}
use borrow.Author.Tests.{tests}
use lib.Dec.{eqb}
use lib.ListN.{length, get_or}
use Rattle.std.specs.Simd.{first_chunks}
use Rattle.std.proofs.lemmas.Iterator.{YieldsList-from_slice}
use Rattle.std.proofs.lemmas.Iterator.Search.{any_from_yields_List}
use Rattle.comparisons.proofs.Entries.{entry_told}
use Rattle.comparisons.proofs.has_entry.Goals as goal

pub returns : goal.returns
returns c =
    let ps = c.args.profile.now in
    let name = c.args.name in
    any_from_yields_List {all = first_chunks 2 (length ps / 2) ps} (λ e. eqb (get_or e 0 0) name) _ _ _ c.any.ensures.ran (YieldsList-from_slice _ cc) (λ x b q k. search (rules, tests))
    ∙ entry_told ps name (omega arith) (λ i. omega (arith, c.type_inv.profile i))
