use borrow.Author.Rules.{rules}
use Rattle.print.proofs.Putting.{byte_ends}
use Rattle.print.proofs.put.Goals as goal

pub returns-then-out-i : goal.returns-then-out-i
returns-then-out-i c = search (byte_ends, rules)

pub returns : goal.returns
returns c = search (byte_ends, rules)
