-- `node_equates`: the head, then the terms in one order and the other.
use Rattle.comparisons.proofs.Equated.{equates_ends}
use Rattle.comparisons.proofs.node_equates.Goals as goal

pub returns-then-n-ne-EQUAL : goal.returns-then-n-ne-EQUAL
returns-then-n-ne-EQUAL c = search equates_ends

pub returns-then-has_terms : goal.returns-then-has_terms
returns-then-has_terms c = search equates_ends

pub returns : goal.returns
returns c = search equates_ends
