use Rattle.nodes.proofs.Words.{node_ends}
use Rattle.nodes.proofs.node_at.Goals as goal

pub returns-then-k-eq0 : goal.returns-then-k-eq0
returns-then-k-eq0 c = search node_ends

pub returns-then-right-eq-NUMBER : goal.returns-then-right-eq-NUMBER
returns-then-right-eq-NUMBER c = search node_ends

pub returns-then-right-eq-ENTRY : goal.returns-then-right-eq-ENTRY
returns-then-right-eq-ENTRY c = search node_ends

pub returns : goal.returns
returns c = search node_ends
