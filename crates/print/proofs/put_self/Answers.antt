use borrow.Author.Rules.{rules}
use Rattle.print.proofs.Sides.{self_end}
use Rattle.print.proofs.put_self.Goals as goal

pub returns : goal.returns
returns c = search (self_end, rules)
