use borrow.Author.Rules.{rules}
use Rattle.print_query.proofs.Openings.{aggregate_end}
use Rattle.print_query.proofs.put_aggregate.Goals as goal

pub returns : goal.returns
returns c = search (aggregate_end, rules)
