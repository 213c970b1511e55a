-- `with`: whether it may be lent, by the words of its place.
use borrow.Author.Rules.{rules}
use Rattle.catalogue.specs.Opened.{with_bits}
use Rattle.catalogue.proofs.Opened.with.Goals as goal

pub returns : goal.returns
unfolding with_bits
returns c = search rules
