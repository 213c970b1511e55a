-- `side_columns`: the forms passed are picks.
use Rattle.rewrite.proofs.Turns.{order_ends}
use Rattle.rewrite.proofs.side_columns.Goals as goal

pub returns-then-is_rows : goal.returns-then-is_rows
returns-then-is_rows c = search order_ends

pub returns-then-f-eq-KEEP : goal.returns-then-f-eq-KEEP
returns-then-f-eq-KEEP c = search order_ends

pub loop-f-preserved : goal.loop-f-preserved
loop-f-preserved c = search order_ends

pub returns : goal.returns
returns c = search order_ends
