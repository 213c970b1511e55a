-- `stream_order`: an order so far, with the columns that are left, is that of all columns.
use borrow.Author.Rules.{rules}
use Rattle.plan.proofs.Steps.{order_ends}
use Rattle.plan.proofs.stream_order.Goals as goal

pub returns-then-s-ge-MOST : goal.returns-then-s-ge-MOST
returns-then-s-ge-MOST c = search order_ends

pub loop-c-init : goal.loop-c-init
loop-c-init c = (search order_ends, search order_ends)

pub loop-c-preserved : goal.loop-c-preserved
loop-c-preserved c = (search rules, search order_ends)

pub returns : goal.returns
returns c = search order_ends
