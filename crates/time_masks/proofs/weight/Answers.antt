use borrow.Author.Rules.{rules}
use Rattle.time_masks.proofs.Clocks.{weight_ends}
use Rattle.time_masks.proofs.weight.Goals as goal

pub returns-then-passes : goal.returns-then-passes
returns-then-passes g c = search (weight_ends, rules)

pub returns : goal.returns
returns g c = search (weight_ends, rules)
