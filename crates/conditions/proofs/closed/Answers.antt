use Rattle.text.proofs.Places.{next_fits}
use Rattle.conditions.proofs.Leaves.{closed_ends}
use Rattle.conditions.proofs.closed.Goals as goal

pub returns-then-byte-ne41 : goal.returns-then-byte-ne41
returns-then-byte-ne41 c = search closed_ends

pub overflow_add-at : goal.overflow_add-at
overflow_add-at c = search next_fits

pub returns-then-i : goal.returns-then-i
returns-then-i c = search closed_ends

pub overflow_add-result : goal.overflow_add-result
overflow_add-result c = search next_fits

pub returns : goal.returns
returns c = search closed_ends
