-- `put_columns`: after i columns the rest of the order is still to be written.
use borrow.Author.Rules.{rules}
use Rattle.print.proofs.Names.{rest_ends}
use Rattle.print.proofs.put_columns.Goals as goal

pub loop-i-init : goal.loop-i-init
loop-i-init c = (search (rest_ends, rules), search rules)

pub loop-i-preserved : goal.loop-i-preserved
loop-i-preserved c = (search (rest_ends, rules), search rules)

pub returns : goal.returns
returns c = search (rest_ends, rules)
