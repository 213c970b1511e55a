-- `after`: the next stream's grant after a stream, the same after any other form.
use Rattle.rewrite.proofs.Turns.{after_ends}
use Rattle.rewrite.proofs.after.Goals as goal

pub returns-then-is_rows : goal.returns-then-is_rows
returns-then-is_rows c = search after_ends

pub returns : goal.returns
returns c = search after_ends
