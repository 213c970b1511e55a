-- `entry_value`: the value fits 32 bits, so that the sum is not below 0.
use borrow.Author.Rules.{rules}
use lib.IntN.{pos}
use lib.ListN.{get_or}
use mir.Syntax.{w32}
use mir.Val.{SFits}
use Rattle.terms.proofs.Numbers.{widened, sum_fits, total_positive, total_biased}
use Rattle.catalogue.proofs.entry_value.Goals as goal
use Rattle.catalogue.proofs.entry_value.Goals.{After-result-1}

ranged : (c : After-result-1) → SFits w32 (get_or c.args.who.value c.args.i (pos 0))
ranged c = search rules

pub overflow_cast-result : goal.overflow_cast-result
overflow_cast-result c = widened _ (ranged (goal.at.overflow_cast-result c).After-result-1)

pub overflow_add-result : goal.overflow_add-result
overflow_add-result c = sum_fits _ (ranged (goal.at.overflow_add-result c).After-result-1)

pub overflow_cast-result-2 : goal.overflow_cast-result-2
overflow_cast-result-2 c = total_positive _ (ranged (goal.at.overflow_cast-result-2 c).After-result-1)

pub returns : goal.returns
returns c = total_biased _ (ranged (goal.at.returns c).After-result-1)
