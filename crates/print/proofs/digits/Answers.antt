use borrow.Author.Rules.{rules}
use Rattle.print.proofs.Numbers.{long_ends}
use Rattle.print.proofs.digits.Goals as goal

pub returns-then-n-lt10000 : goal.returns-then-n-lt10000
returns-then-n-lt10000 c = search (long_ends, rules)

pub returns-then-n-lt100000 : goal.returns-then-n-lt100000
returns-then-n-lt100000 c = search (long_ends, rules)

pub returns-then-n-lt1000000 : goal.returns-then-n-lt1000000
returns-then-n-lt1000000 c = search (long_ends, rules)

pub returns-then-n-lt10000000 : goal.returns-then-n-lt10000000
returns-then-n-lt10000000 c = search (long_ends, rules)

pub returns-then-n-lt100000000 : goal.returns-then-n-lt100000000
returns-then-n-lt100000000 c = search (long_ends, rules)

pub returns-then-n-lt1000000000 : goal.returns-then-n-lt1000000000
returns-then-n-lt1000000000 c = search (long_ends, rules)

pub returns : goal.returns
returns c = search (long_ends, rules)
