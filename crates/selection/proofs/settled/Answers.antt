use Rattle.selection.proofs.Comparing.{settled_all, settled_none}
use Rattle.selection.proofs.settled.Goals as goal

pub returns-then-holds : goal.returns-then-holds
returns-then-holds c = settled_all _ _ _ _ c.holds.ensures c.if-holds.true c.first.ensures

pub returns : goal.returns
returns c = settled_none _ _ _ _ c.holds.ensures c.if-holds.false c.none.ensures
