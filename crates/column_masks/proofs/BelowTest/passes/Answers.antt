use borrow.Author.Rules.{rules}
use Rattle.column_masks.proofs.Columns.{less_test}
use Rattle.column_masks.proofs.BelowTest.passes.Goals as goal

pub returns : goal.returns
returns c = search (less_test, rules)
