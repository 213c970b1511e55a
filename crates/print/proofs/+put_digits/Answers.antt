-- `put_digits`: the number falls.
use borrow.Author.Rules.{rules}
use Rattle.print.proofs.Numbers.{digits_ends}
use Rattle.print.proofs.+put_digits.Goals as goal

pub returns-then-n-lt10 : goal.returns-then-n-lt10
returns-then-n-lt10 t c = search (digits_ends, rules)

pub returns : goal.returns
returns t c = search (digits_ends, rules)
