use Rattle.conditions.proofs.Leaves.{count_ends}
use Rattle.conditions.proofs.counted.Goals as goal

pub returns-then-n-gt-MOST : goal.returns-then-n-gt-MOST
returns-then-n-gt-MOST c = search count_ends

pub returns : goal.returns
returns c = search count_ends
