use borrow.Author.Rules.{rules}
use Rattle.selection.proofs.Sides.{left_ends}
use Rattle.selection.proofs.left_names.Goals as goal

pub returns-then-sc-ge-PLACES : goal.returns-then-sc-ge-PLACES
returns-then-sc-ge-PLACES c = search (left_ends, rules)

pub returns-then-s-sc : goal.returns-then-s-sc
returns-then-s-sc c = search (left_ends, rules)

pub returns : goal.returns
returns c = search (left_ends, rules)
