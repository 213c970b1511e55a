-- `shows`: past its 32 bits a mask has none.
use Rattle.masks.proofs.Bits.{shows_ends}
use Rattle.masks.proofs.shows.Goals as goal

pub returns-then-i-ge32 : goal.returns-then-i-ge32
returns-then-i-ge32 c = search shows_ends
