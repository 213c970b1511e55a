use mathlib.Core.Path.{◌∙◌, ap}
use lib.ListN.{get_or}
use Rattle.nodes.proofs.Tests.{link_met}
use Rattle.selection.proofs.link_at.Goals as goal

pub returns : goal.returns
returns c = let e = c.saturating_sub-last.ensures in link_met c.args.words.now c.args.k (c.word_at.ensures ∙ ap (λ i. get_or c.args.words.now i 0) e) e c.min.ensures
