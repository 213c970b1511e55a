use borrow.Author.Rules.{rules}
use Rattle.conditions.specs.Seeing.{begun}
use Rattle.conditions.proofs.begun.Goals as goal

pub returns : goal.returns
unfolding begun
returns c = search rules
