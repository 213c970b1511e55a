use borrow.Author.Rules.{rules}
use Rattle.print.proofs.Picks.{pick_ends}
use Rattle.print.proofs.put_pick.Goals as goal

pub returns-then-not-any : goal.returns-then-not-any
returns-then-not-any c = search (pick_ends, rules)

pub returns : goal.returns
returns c = search (pick_ends, rules)
