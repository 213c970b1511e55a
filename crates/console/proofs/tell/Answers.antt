use Rattle.console.proofs.Rooms.{tell_ends}
use borrow.Author.Rules.{rules}
use Rattle.console.proofs.tell.Goals as goal

pub returns-in-Refusal : goal.returns-in-Refusal
returns-in-Refusal g c = (search (c.flush-r.ensures.0, tell_ends, rules), c.flush-r.ensures.1)
