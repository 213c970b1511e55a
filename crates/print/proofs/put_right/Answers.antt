use borrow.Author.Rules.{rules}
use Rattle.print.proofs.Sides.{right_ends}
use Rattle.print.proofs.put_right.Goals as goal

pub returns-then-code-le-FIGURE : goal.returns-then-code-le-FIGURE
returns-then-code-le-FIGURE c = search (right_ends, rules)

pub returns-then-code-eq-NUMBER : goal.returns-then-code-eq-NUMBER
returns-then-code-eq-NUMBER c = search (right_ends, rules)

pub returns-then-own : goal.returns-then-own
returns-then-own c = search (right_ends, rules)

pub returns : goal.returns
returns c = search (right_ends, rules)
