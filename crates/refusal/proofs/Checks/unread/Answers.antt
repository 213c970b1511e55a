use Rattle.refusal.proofs.Checks.unread.Goals as goal

pub returns : goal.returns
returns c = rw c.new-c.ensures
