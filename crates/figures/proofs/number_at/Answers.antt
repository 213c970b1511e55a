use Rattle.figures.proofs.Comparing.{standing_ends}
use Rattle.figures.proofs.number_at.Goals as goal

pub returns-then-n-eq-NUMBER : goal.returns-then-n-eq-NUMBER
returns-then-n-eq-NUMBER c = search standing_ends

pub returns-then-n-ne-ENTRY : goal.returns-then-n-ne-ENTRY
returns-then-n-ne-ENTRY c = search standing_ends

pub returns-then-n-lt4294967296 : goal.returns-then-n-lt4294967296
returns-then-n-lt4294967296 c = search standing_ends

pub returns : goal.returns
returns c = search standing_ends
