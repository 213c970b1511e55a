-- `with_code`: whether there is room, and such a code.
use Rattle.orders.proofs.Turns.{with_ends}
use Rattle.orders.proofs.with_code.Goals as goal

pub returns-then-order-ge-ROOM : goal.returns-then-order-ge-ROOM
returns-then-order-ge-ROOM c = search with_ends

pub returns-then-code-ge-CODE_END : goal.returns-then-code-ge-CODE_END
returns-then-code-ge-CODE_END c = search with_ends

pub returns : goal.returns
returns c = search with_ends
