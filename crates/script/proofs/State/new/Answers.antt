use borrow.Author.Rules.{rules}
use Rattle.script.proofs.Returns.{new_made}
use Rattle.script.proofs.State.new.Goals as goal

pub returns : goal.returns
returns c = search (new_made, rules)
