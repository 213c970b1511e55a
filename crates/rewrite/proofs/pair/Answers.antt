-- `pair`: the forms passed are cut.
use borrow.Author.Rules.{rules}
use Rattle.rewrite.proofs.Turns.{pair_ends}
use Rattle.rewrite.proofs.pair.Goals as goal

pub loop-i-init : goal.loop-i-init
loop-i-init c = (search rules, search pair_ends)

pub returns-then-f-eq-JOIN : goal.returns-then-f-eq-JOIN
returns-then-f-eq-JOIN c = search pair_ends

pub loop-i-preserved : goal.loop-i-preserved
loop-i-preserved c = (search rules, search pair_ends)

pub returns : goal.returns
returns c = search pair_ends
