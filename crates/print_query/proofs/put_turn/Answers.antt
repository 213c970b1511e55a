use borrow.Author.Rules.{rules}
use Rattle.print_query.proofs.Turns.{turn_ends}
use Rattle.print_query.proofs.put_turn.Goals as goal

pub returns-then-f-eq-ROWS : goal.returns-then-f-eq-ROWS
returns-then-f-eq-ROWS c = search (turn_ends, rules)

pub returns-then-f-eq-JOIN : goal.returns-then-f-eq-JOIN
returns-then-f-eq-JOIN c = search (turn_ends, rules)

pub returns-then-bracketed : goal.returns-then-bracketed
returns-then-bracketed c = search (turn_ends, rules)

pub returns : goal.returns
returns c = search (turn_ends, rules)
