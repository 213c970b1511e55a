-- `dotted_of`: by its fields.
use Rattle.terms.specs.Terms.{dotted_of}
use Rattle.terms.proofs.dotted_of.Goals as goal

pub returns : goal.returns
unfolding dotted_of
returns c = rw c.either-over.ensures
