-- `belongs`: the role, then the entries.
use Rattle.routes.proofs.Opened.{belongs_ends}
use Rattle.routes.proofs.belongs.Goals as goal

pub returns-then-not-role_held : goal.returns-then-not-role_held
returns-then-not-role_held c = search belongs_ends

pub returns : goal.returns
returns c = search belongs_ends
