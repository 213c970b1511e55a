-- `node_known`: the terms one after the other.
use Rattle.comparisons.proofs.Entries.{node_ends}
use Rattle.comparisons.proofs.node_known.Goals as goal

pub returns-then-not-compares : goal.returns-then-not-compares
returns-then-not-compares c = search node_ends

pub returns-then-not-term_known : goal.returns-then-not-term_known
returns-then-not-term_known c = search node_ends

pub returns : goal.returns
returns c = search node_ends
