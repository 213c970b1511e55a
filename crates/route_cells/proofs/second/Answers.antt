use borrow.Author.Rules.{rules}
use Rattle.route_cells.proofs.Headers.{second_other, second_lone, second_right}
use Rattle.route_cells.proofs.second.Goals as goal

pub returns-then-y-ne-SIDES : goal.returns-then-y-ne-SIDES
returns-then-y-ne-SIDES c = second_other _ (search rules)

pub returns-then-y : goal.returns-then-y
returns-then-y c = second_lone _ (search rules) (search rules)

pub returns : goal.returns
returns c = second_right _ (search rules) (search rules) (search rules)
