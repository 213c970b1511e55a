-- `group_name`: the numbers passed are not 0.
use borrow.Author.Rules.{rules}
use Rattle.print.proofs.Names.{group_ends}
use Rattle.print.proofs.group_name.Goals as goal

pub loop-k-init : goal.loop-k-init
loop-k-init c = search (group_ends, rules)

pub returns-then-number_at-eq0 : goal.returns-then-number_at-eq0
returns-then-number_at-eq0 c = search (group_ends, rules)

pub loop-k-preserved : goal.loop-k-preserved
loop-k-preserved c = search (group_ends, rules)

pub returns : goal.returns
returns c = search (group_ends, rules)
