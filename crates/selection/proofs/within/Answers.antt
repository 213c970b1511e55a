use borrow.Author.Rules.{rules}
use Rattle.selection.proofs.Limits.{fit_parts, within_ends}
use Rattle.selection.proofs.within.Goals as goal

pub returns-then-not-times_fit : goal.returns-then-not-times_fit
returns-then-not-times_fit c = search (within_ends, rules)

pub limited-requires : goal.limited-requires
limited-requires c = fit_parts _ _ c.times_fit.ensures c.if-not-times_fit.false-raw

pub returns : goal.returns
returns c = search (within_ends, rules)
