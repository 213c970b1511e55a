use borrow.Author.Rules.{rules}
use Rattle.print.proofs.Sides.{left_ends}
use Rattle.print.proofs.put_left.Goals as goal

pub returns-then-code-le-NUMBER : goal.returns-then-code-le-NUMBER
returns-then-code-le-NUMBER c = search (left_ends, rules)

pub returns-then-own : goal.returns-then-own
returns-then-own c = search (left_ends, rules)

pub returns : goal.returns
returns c = search (left_ends, rules)
