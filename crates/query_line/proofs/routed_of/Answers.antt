-- `routed_of`: by its fields.
use borrow.Author.Rules.{rules}
use Rattle.query_line.proofs.Steps.{routed_made}
use Rattle.query_line.proofs.routed_of.Goals as goal

pub returns : goal.returns
returns c = routed_made _ _ (search rules)
