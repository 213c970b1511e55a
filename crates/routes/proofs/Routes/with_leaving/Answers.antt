-- `with_leaving`: by its two cases.
use borrow.Author.Rules.{rules}
use Rattle.routes.proofs.Listed.{leaving_ends}
use Rattle.routes.proofs.Routes.with_leaving.Goals as goal

pub returns-then-not-leaves_some : goal.returns-then-not-leaves_some
returns-then-not-leaves_some c = (search leaving_ends, search rules)

pub returns : goal.returns
returns c = (search leaving_ends, search leaving_ends)
