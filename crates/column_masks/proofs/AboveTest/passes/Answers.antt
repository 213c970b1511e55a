use borrow.Author.Rules.{rules}
use Rattle.model.specs.Meaning.{compares}
use Rattle.column_masks.proofs.Columns.{less_test}
use Rattle.column_masks.proofs.AboveTest.passes.Goals as goal

pub returns : goal.returns
unfolding compares
returns c = let k = c.args in search (less_test, rules)
