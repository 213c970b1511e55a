-- `put_wide`: the number falls.
use borrow.Author.Rules.{rules}
use Rattle.print.proofs.Numbers.{digits_ends}
use Rattle.print.proofs.+put_wide.Goals as goal

pub returns : goal.returns
returns t c = search (digits_ends, rules)
