use Rattle.selection.proofs.Evaluating.{leaf_none, leaf_some}
use Rattle.selection.proofs.leaf.Goals as goal

pub returns-then-k-eq0 : goal.returns-then-k-eq0
returns-then-k-eq0 c = let a = c.args in λ l. leaf_none a.words.now a.k a.sc a.times.now a.values.now a.profile.now c.if-k-eq0.true c.first-all.ensures

pub returns : goal.returns
returns c = let a = c.args in let e = c.leaves-w.ensures in leaf_some a.words.now a.k a.sc a.times.now a.values.now a.profile.now c.if-k-eq0.false c.first-all.ensures e.0 e.1
