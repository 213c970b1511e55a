use borrow.Author.Rules.{rules}
use Rattle.print_query.proofs.Openings.{span_end}
use Rattle.print_query.proofs.put_span.Goals as goal

pub returns : goal.returns
returns c = search (span_end, rules)
