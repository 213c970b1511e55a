-- `sum`: the forms passed are as they were.
use borrow.Author.Rules.{rules}
use Rattle.rewrite.proofs.Turns.{sum_ends}
use Rattle.rewrite.proofs.sum.Goals as goal

pub loop-i-init : goal.loop-i-init
loop-i-init c = (search rules, search sum_ends)

pub returns-then-f-eq-AGGREGATE : goal.returns-then-f-eq-AGGREGATE
returns-then-f-eq-AGGREGATE c = search sum_ends

pub loop-i-preserved : goal.loop-i-preserved
loop-i-preserved c = (search rules, search sum_ends)

pub returns : goal.returns
returns c = search sum_ends
