use lib.ListN.{length-set}
use Rattle.nodes.proofs.Words.{value_rooms, value_ends}
use Rattle.nodes.proofs.put_value.Goals as goal

pub bounds-words-b : goal.bounds-words-b
bounds-words-b c = search value_rooms

pub returns-then-n-eq-NUMBER : goal.returns-then-n-eq-NUMBER
returns-then-n-eq-NUMBER c = search value_ends

pub returns-then-n-ne-ENTRY : goal.returns-then-n-ne-ENTRY
returns-then-n-ne-ENTRY c = search value_ends

pub bounds-words-b-2 : goal.bounds-words-b-2
bounds-words-b-2 c = search value_rooms

pub bounds-words-b-3 : goal.bounds-words-b-3
bounds-words-b-3 c = simp length-set (search value_rooms)

pub returns : goal.returns
returns c = search value_ends
