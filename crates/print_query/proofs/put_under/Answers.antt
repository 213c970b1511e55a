use borrow.Author.Rules.{rules}
use Rattle.print_query.proofs.Openings.{under_end}
use Rattle.print_query.proofs.put_under.Goals as goal

pub returns : goal.returns
returns c = search (under_end, rules)
