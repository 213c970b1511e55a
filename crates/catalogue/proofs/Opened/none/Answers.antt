-- `none`: few enough grants, then words enough.
use borrow.Author.Rules.{rules}
use Rattle.catalogue.proofs.Taken.{none_ends}
use Rattle.catalogue.proofs.Opened.none.Goals as goal

pub returns-then-count-gt-GRANTS : goal.returns-then-count-gt-GRANTS
returns-then-count-gt-GRANTS c = search (none_ends, rules)

pub returns : goal.returns
returns c = search (none_ends, rules)
