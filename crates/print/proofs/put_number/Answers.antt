use borrow.Author.Rules.{rules}
use Rattle.print.proofs.Numbers.{number_ends}
use Rattle.print.proofs.put_number.Goals as goal

pub returns-then-v-lt-ZERO : goal.returns-then-v-lt-ZERO
returns-then-v-lt-ZERO c = search (number_ends, rules)

pub returns : goal.returns
returns c = search (number_ends, rules)
