-- `with`: a shift by less than the width loses nothing.
use Rattle.masks.proofs.Bits.{with_ends}
use Rattle.masks.proofs.with.Goals as goal

pub returns-then-i-lt32 : goal.returns-then-i-lt32
returns-then-i-lt32 c = search with_ends

pub returns : goal.returns
returns c = search with_ends
