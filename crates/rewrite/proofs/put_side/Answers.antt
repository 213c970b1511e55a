-- `put_side`: a stream as its grant shows it, or a form cut.
use Rattle.rewrite.proofs.Turns.{side_ends}
use Rattle.rewrite.proofs.put_side.Goals as goal

pub returns-then-is_rows : goal.returns-then-is_rows
returns-then-is_rows c = search side_ends

pub returns : goal.returns
returns c = search side_ends
