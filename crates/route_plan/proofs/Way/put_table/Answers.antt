use borrow.Author.Rules.{rules}
use Rattle.route_plan.proofs.Ends.{table_ends}
use Rattle.route_plan.proofs.Way.put_table.Goals as goal

pub returns-then-self-eq-SIDES : goal.returns-then-self-eq-SIDES
returns-then-self-eq-SIDES c = search (table_ends, rules)

pub returns-then-self-ne-FIGURES : goal.returns-then-self-ne-FIGURES
returns-then-self-ne-FIGURES c = search (table_ends, rules)

pub returns-then-self : goal.returns-then-self
returns-then-self c = search (table_ends, rules)

pub returns : goal.returns
returns c = search (table_ends, rules)
