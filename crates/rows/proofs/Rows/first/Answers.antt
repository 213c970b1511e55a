use borrow.Author.Rules.{rules}
use Rattle.rows.proofs.Masks.{mask_ends}
use Rattle.rows.proofs.Rows.first.Goals as goal

pub returns-then-n-ge-MOST : goal.returns-then-n-ge-MOST
returns-then-n-ge-MOST c = search (mask_ends, rules)

pub returns : goal.returns
returns c = search (mask_ends, rules)
