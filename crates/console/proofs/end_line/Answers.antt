use Rattle.console.proofs.Rooms.{close_ends}
use borrow.Author.Rules.{rules}
use Rattle.console.proofs.end_line.Goals as goal

pub returns-then-kept-eq0 : goal.returns-then-kept-eq0
returns-then-kept-eq0 c = search (close_ends, rules)

pub returns-then-block-eq0 : goal.returns-then-block-eq0
returns-then-block-eq0 c = search (close_ends, rules)

pub returns : goal.returns
returns c = search (close_ends, rules)
