use borrow.Author.Rules.{rules}
use Rattle.selection.proofs.Limits.{fits_lent}
use Rattle.selection.proofs.Views.{view_ends}
use Rattle.selection.proofs.conditions.Goals as goal

pub fits-requires : goal.fits-requires
fits-requires c = search (fits_lent, rules)

pub none-requires : goal.none-requires
none-requires c = search (fits_lent, rules)

pub returns-then-not-fits : goal.returns-then-not-fits
returns-then-not-fits c = search (view_ends, rules)

pub list-requires : goal.list-requires
list-requires c = search (fits_lent, rules)

pub returns : goal.returns
returns c = search (view_ends, rules)
