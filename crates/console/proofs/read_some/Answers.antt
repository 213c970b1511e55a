use Rattle.console.proofs.Rooms.{read_ends}
use borrow.Author.Rules.{rules}
use Rattle.console.proofs.read_some.Goals as goal

pub returns-in-Ok-eq0 : goal.returns-in-Ok-eq0
returns-in-Ok-eq0 c = search (read_ends, rules)

pub returns-in-Ok : goal.returns-in-Ok
returns-in-Ok c = search (read_ends, rules)

pub returns : goal.returns
returns c = search (read_ends, rules)
