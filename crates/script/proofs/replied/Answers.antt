use borrow.Author.Rules.{rules}
use Rattle.script.proofs.Returns.{replied_refused, replied_given}
use Rattle.script.proofs.replied.Goals as goal

pub returns-then-r-ne0 : goal.returns-then-r-ne0
returns-then-r-ne0 c = search (replied_refused, rules)

pub returns : goal.returns
returns c = search (replied_given, rules)
