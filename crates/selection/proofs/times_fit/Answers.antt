use borrow.Author.Rules.{rules}
use Rattle.selection.proofs.Limits.{fit_ends}
use Rattle.selection.proofs.times_fit.Goals as goal

pub returns-then-sc-ge-STREAMS : goal.returns-then-sc-ge-STREAMS
returns-then-sc-ge-STREAMS c = search (fit_ends, rules)

pub returns-then-sc-gt-ROWS : goal.returns-then-sc-gt-ROWS
returns-then-sc-gt-ROWS c = search (fit_ends, rules)

pub returns : goal.returns
returns c = search (fit_ends, rules)
