use borrow.Author.Rules.{rules}
use Rattle.script.proofs.Returns.{identified_ok, identified_err}
use Rattle.script.proofs.identified.Goals as goal

pub returns-in-Ok : goal.returns-in-Ok
returns-in-Ok c = search (identified_ok, rules)

pub returns-in-Err : goal.returns-in-Err
returns-in-Err c = search (identified_err, rules)
