-- `times`: by its three cases.
use Rattle.needs.proofs.Makes.{need_ends}
use Rattle.needs.proofs.Needs.times.Goals as goal

pub returns-then-self : goal.returns-then-self
returns-then-self c = search need_ends

pub returns-then-self-ne-NONE : goal.returns-then-self-ne-NONE
returns-then-self-ne-NONE c = search need_ends

pub returns : goal.returns
returns c = search need_ends
