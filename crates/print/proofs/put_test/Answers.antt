use borrow.Author.Rules.{rules}
use Rattle.print.proofs.Sides.{test_end}
use Rattle.print.proofs.put_test.Goals as goal

pub returns : goal.returns
returns c = search (test_end, rules)
