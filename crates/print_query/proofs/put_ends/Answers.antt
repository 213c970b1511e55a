-- `put_ends`: the brackets of the marks that are left are still to be written.
use borrow.Author.Rules.{rules}
use Rattle.print_query.proofs.Turns.{closes_ends}
use Rattle.print_query.proofs.put_ends.Goals as goal

pub loop-left-init : goal.loop-left-init
loop-left-init c = (search (closes_ends, rules), search rules)

pub returns-then-left-eq1 : goal.returns-then-left-eq1
returns-then-left-eq1 c = search (closes_ends, rules)

pub loop-left-preserved : goal.loop-left-preserved
loop-left-preserved c = (search (closes_ends, rules), search rules)

pub returns : goal.returns
returns c = search (closes_ends, rules)
