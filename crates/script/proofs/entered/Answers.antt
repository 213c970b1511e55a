use borrow.Author.Rules.{rules}
use Rattle.script.proofs.Returns.{entered_ok, entered_err}
use Rattle.script.proofs.entered.Goals as goal

pub returns-in-Ok : goal.returns-in-Ok
returns-in-Ok c = search (entered_ok, rules)

pub returns-in-Err : goal.returns-in-Err
returns-in-Err c = search (entered_err, rules)
