use borrow.Author.Rules.{rules}
use Rattle.column_masks.proofs.Columns.{kind_ends}
use Rattle.column_masks.proofs.matched_mask.Goals as goal

pub returns-then-kind-eq-SAME : goal.returns-then-kind-eq-SAME
returns-then-kind-eq-SAME c = search (kind_ends, rules)

pub returns-then-kind-eq-BELOW : goal.returns-then-kind-eq-BELOW
returns-then-kind-eq-BELOW c = search (kind_ends, rules)

pub returns : goal.returns
returns c = search (kind_ends, rules)
