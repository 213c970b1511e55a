-- `sides`: the forms passed are cut, and their streams seen.
use borrow.Author.Rules.{rules}
use Rattle.rewrite.proofs.Turns.{sides_ends}
use Rattle.rewrite.proofs.sides.Goals as goal

pub loop-f-init : goal.loop-f-init
loop-f-init c = (search rules, search sides_ends)

pub loop-f-preserved : goal.loop-f-preserved
loop-f-preserved c = (search rules, search sides_ends)

pub returns : goal.returns
returns c = search sides_ends
