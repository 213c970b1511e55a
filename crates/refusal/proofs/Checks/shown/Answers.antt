use Rattle.refusal.proofs.Checks.shown.Goals as goal

pub returns : goal.returns
returns c = rw c.new-c.ensures
