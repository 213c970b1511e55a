-- `put_picks`: the picks passed are added.
use borrow.Author.Rules.{rules}
use Rattle.rewrite.proofs.Turns.{picks_ends}
use Rattle.rewrite.proofs.put_picks.Goals as goal

pub returns-then-is_rows : goal.returns-then-is_rows
returns-then-is_rows c = search picks_ends

pub loop-f-preserved : goal.loop-f-preserved
loop-f-preserved c = (search rules, search picks_ends)

pub returns : goal.returns
returns c = search picks_ends
