use borrow.Author.Rules.{rules}
use Rattle.selection.proofs.Limits.{fit_ends}
use Rattle.selection.proofs.fits.Goals as goal

pub returns-then-not-times_fit : goal.returns-then-not-times_fit
returns-then-not-times_fit c = search (fit_ends, rules)

pub returns : goal.returns
returns c = search (fit_ends, rules)
