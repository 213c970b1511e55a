use borrow.Author.Rules.{rules}
use Rattle.print_query.proofs.Openings.{keep_end}
use Rattle.print_query.proofs.put_keep.Goals as goal

pub returns : goal.returns
returns c = search (keep_end, rules)
