use borrow.Author.Rules.{rules}
use Rattle.time_masks.proofs.Clocks.{at_weight}
use Rattle.time_masks.proofs.weight_at.Goals as goal

pub returns : goal.returns
returns g c = search (at_weight, rules)
