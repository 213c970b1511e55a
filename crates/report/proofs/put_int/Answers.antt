use borrow.Author.Rules.{rules}
use Rattle.report.proofs.Numbers.{int_ends}
use Rattle.report.proofs.put_int.Goals as goal

pub returns-then-z-lt0 : goal.returns-then-z-lt0
returns-then-z-lt0 c = search (int_ends, rules)

pub returns : goal.returns
returns c = search (int_ends, rules)
