-- `picks`: by its two cases.
use Rattle.needs.proofs.Makes.{need_ends}
use Rattle.needs.proofs.Needs.picks.Goals as goal

pub returns-then-self : goal.returns-then-self
returns-then-self c = search need_ends

pub returns : goal.returns
returns c = search need_ends
