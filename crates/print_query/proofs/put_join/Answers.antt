use borrow.Author.Rules.{rules}
use Rattle.print_query.proofs.Openings.{join_end}
use Rattle.print_query.proofs.put_join.Goals as goal

pub returns : goal.returns
returns c = search (join_end, rules)
