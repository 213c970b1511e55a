-- `alone_of`: by its fields.
use mathlib.Core.Path.{refl}
use Rattle.terms.specs.Terms.{alone_of}
use Rattle.terms.proofs.alone_of.Goals as goal

pub returns : goal.returns
unfolding alone_of
returns c = refl
