-- `of`: what the forms passed ask.
use borrow.Author.Rules.{rules}
use Rattle.needs.proofs.Tables.{table_ends}
use Rattle.needs.proofs.Needs.of.Goals as goal

pub loop-i-init : goal.loop-i-init
loop-i-init c = search table_ends

pub loop-i-preserved : goal.loop-i-preserved
loop-i-preserved c = search (table_ends, rules)

pub returns : goal.returns
returns c = search table_ends
