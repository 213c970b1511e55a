use borrow.Author.Rules.{rules}
use Rattle.print.proofs.Numbers.{long_ends}
use Rattle.print.proofs.few_digits.Goals as goal

pub returns-then-n-lt10 : goal.returns-then-n-lt10
returns-then-n-lt10 c = search (long_ends, rules)

pub returns-then-n-lt100 : goal.returns-then-n-lt100
returns-then-n-lt100 c = search (long_ends, rules)

pub returns-then-n-lt1000 : goal.returns-then-n-lt1000
returns-then-n-lt1000 c = search (long_ends, rules)

pub returns : goal.returns
returns c = search (long_ends, rules)
