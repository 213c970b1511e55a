use borrow.Author.Rules.{rules}
use Rattle.column_masks.proofs.Columns.{same_test}
use Rattle.column_masks.proofs.SameTest.passes.Goals as goal

pub returns : goal.returns
returns c = search (same_test, rules)
