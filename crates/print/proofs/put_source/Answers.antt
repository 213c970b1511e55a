use borrow.Author.Rules.{rules}
use Rattle.print.proofs.Names.{source_end}
use Rattle.print.proofs.put_source.Goals as goal

pub returns : goal.returns
returns c = search (source_end, rules)
