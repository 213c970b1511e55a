use borrow.Author.Rules.{rules}
use Rattle.print_query.proofs.Openings.{pick_end}
use Rattle.print_query.proofs.put_pick.Goals as goal

pub returns : goal.returns
returns c = search (pick_end, rules)
