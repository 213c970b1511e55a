-- `number_at`: past the last there is none.
use Rattle.lists.proofs.Counting.{number_none}
use Rattle.places.proofs.number_at.Goals as goal

pub returns-then-numbers-i : goal.returns-then-numbers-i
returns-then-numbers-i c = search (number_none)
