-- `with_columns`: the shown columns passed are added, and the others are left.
use Rattle.rewrite.proofs.Turns.{columns_ends}
use Rattle.rewrite.proofs.with_columns.Goals as goal

pub returns-then-s-ge-MOST : goal.returns-then-s-ge-MOST
returns-then-s-ge-MOST c = search columns_ends

pub loop-c-init : goal.loop-c-init
loop-c-init c = (search columns_ends, search columns_ends)

pub loop-c-preserved : goal.loop-c-preserved
loop-c-preserved c = (search columns_ends, search columns_ends)

pub returns : goal.returns
returns c = search columns_ends
