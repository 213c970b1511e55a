-- `entry_value`: none of the entries passed has the name.
use borrow.Author.Rules.{rules}
use Rattle.print.proofs.Sides.{entry_ends}
use Rattle.print.proofs.entry_value.Goals as goal

pub loop-i-init : goal.loop-i-init
loop-i-init c = search (entry_ends, rules)

pub returns-then-number_at-v : goal.returns-then-number_at-v
returns-then-number_at-v c = search (entry_ends, rules)

pub loop-i-preserved : goal.loop-i-preserved
loop-i-preserved c = search (entry_ends, rules)

pub returns : goal.returns
returns c = search (entry_ends, rules)
