-- `with_sides`: a walk through the places on the left.
use borrow.Author.Rules.{rules}
use Rattle.routes.proofs.Listed.{Walk_Ends, each_left}
use Rattle.routes.proofs.Routes.with_sides.Goals as goal

pub loop-i-init : goal.loop-i-init
loop-i-init c = (search Walk_Ends, search rules)

pub loop-i-smaller : goal.loop-i-smaller
loop-i-smaller c = search Walk_Ends

pub loop-i-preserved : goal.loop-i-preserved
loop-i-preserved c = (search Walk_Ends, search Walk_Ends)

pub returns : goal.returns
returns c = (search (each_left), search rules)
