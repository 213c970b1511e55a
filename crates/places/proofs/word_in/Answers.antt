-- `word_in`: past the last there is none.
use Rattle.lists.proofs.Counting.{number_none}
use Rattle.places.proofs.word_in.Goals as goal

pub returns-then-words-i : goal.returns-then-words-i
returns-then-words-i c = search (number_none)
