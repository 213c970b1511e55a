use Rattle.grant_line.proofs.Tests.{misplaced_ends}
use Rattle.grant_line.proofs.misplaced.Goals as goal

pub returns-then-o-gt-STREAMS : goal.returns-then-o-gt-STREAMS
returns-then-o-gt-STREAMS c = search misplaced_ends

pub returns-then-shows_other : goal.returns-then-shows_other
returns-then-shows_other c = search misplaced_ends

pub returns-then-not-within : goal.returns-then-not-within
returns-then-not-within c = search misplaced_ends

pub returns-then-not-within-2 : goal.returns-then-not-within-2
returns-then-not-within-2 c = search misplaced_ends

pub returns-then-unordered : goal.returns-then-unordered
returns-then-unordered c = search misplaced_ends

pub returns-then-h-ne-READ : goal.returns-then-h-ne-READ
returns-then-h-ne-READ c = search misplaced_ends

pub returns : goal.returns
returns c = search misplaced_ends
