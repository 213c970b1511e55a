use borrow.Author.Rules.{rules}
use Rattle.time_masks.proofs.Spans.{time_ends}
use Rattle.time_masks.proofs.time_weight.Goals as goal

pub returns-then-t-low : goal.returns-then-t-low
returns-then-t-low c = search (time_ends, rules)

pub returns-then-high-t : goal.returns-then-high-t
returns-then-high-t c = search (time_ends, rules)

pub returns : goal.returns
returns c = search (time_ends, rules)
