use Rattle.nodes.proofs.Words.{words_ends}
use Rattle.nodes.proofs.node_words.Goals as goal

pub returns-then-n-eq-NUMBER : goal.returns-then-n-eq-NUMBER
returns-then-n-eq-NUMBER c = search words_ends

pub returns-then-n-eq-ENTRY : goal.returns-then-n-eq-ENTRY
returns-then-n-eq-ENTRY c = search words_ends

pub returns : goal.returns
returns c = search words_ends
