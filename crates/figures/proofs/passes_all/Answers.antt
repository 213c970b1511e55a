-- `passes_all`: what `all` gives over the places.
use mathlib.Core.Path.{sym, ◌∙◌}
use borrow.Author.Rules.{rules}
use borrow.Author.Tests.{tests}
use Rattle.std.proofs.lemmas.Iterator.{YieldsList-from_slice}
use Rattle.std.proofs.lemmas.Iterator.Search.{all_from_yields_List}
use Rattle.lists.proofs.Chains.{all_is}
use Rattle.nodes.proofs.Reaching.{cond_of}
use Rattle.figures.specs.Figures.{meets, passing}
use Rattle.figures.proofs.Evaluating.{mapped}
use Rattle.figures.proofs.passes_all.Goals as goal

pub returns : goal.returns
unfolding passing
returns c =
    let ws = c.args.words.now in
    let ks = c.args.picks.now in
    let a = c.args.a in
    all_from_yields_List {all = ks} (λ k. meets a (cond_of ws k)) _ _ _ c.all.ensures.ran (YieldsList-from_slice _ cc) (λ x b q k. search (rules, tests))
    ∙ all_is (λ k. meets a (cond_of ws k)) ks ∙ sym (mapped ws a ks)
