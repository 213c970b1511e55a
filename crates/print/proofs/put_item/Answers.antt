use borrow.Author.Rules.{rules}
use Rattle.print.proofs.Names.{item_end}
use Rattle.print.proofs.put_item.Goals as goal

pub returns : goal.returns
returns c = search (item_end, rules)
