-- `compared`: by its fields.
use Rattle.terms.specs.Terms.{compared}
use Rattle.terms.proofs.compared.Goals as goal

pub returns : goal.returns
unfolding compared
returns c = rw c.either-over.ensures
