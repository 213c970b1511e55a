-- `put_table`: what is left of the query, by the forms from place i on and by what stands open.
use borrow.Author.Rules.{rules}
use Rattle.print_query.proofs.Tables.{going_ends}
use Rattle.print_query.proofs.put_table.Goals as goal

pub loop-marks-init : goal.loop-marks-init
loop-marks-init c = (search (going_ends, rules), search rules)

pub put_turn-t-requires : goal.put_turn-t-requires
put_turn-t-requires c = search (going_ends, rules)

pub overflow_add-i : goal.overflow_add-i
overflow_add-i c = search (going_ends, rules)

pub loop-marks-smaller : goal.loop-marks-smaller
loop-marks-smaller c = search (going_ends, rules)

pub loop-marks-preserved : goal.loop-marks-preserved
loop-marks-preserved c = (search (going_ends, rules), search rules)

pub returns : goal.returns
returns c = search (going_ends, rules)
