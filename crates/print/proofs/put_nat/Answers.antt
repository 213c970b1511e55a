use borrow.Author.Rules.{rules}
use Rattle.print.proofs.Numbers.{digits_ends}
use Rattle.print.proofs.put_nat.Goals as goal

pub returns-then-out-p : goal.returns-then-out-p
returns-then-out-p c = search (digits_ends, rules)

pub returns : goal.returns
returns c = search (digits_ends, rules)
