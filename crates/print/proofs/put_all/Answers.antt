use borrow.Author.Rules.{rules}
use Rattle.print.proofs.Picks.{all_end}
use Rattle.print.proofs.put_all.Goals as goal

pub returns : goal.returns
returns c = search (all_end, rules)
