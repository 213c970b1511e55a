use borrow.Author.Rules.{rules}
use Rattle.time_masks.proofs.Clocks.{later_ends}
use Rattle.time_masks.proofs.clock.Goals as goal

pub capped-s-requires : goal.capped-s-requires
capped-s-requires c = search (later_ends, rules)

pub overflow_cast-x : goal.overflow_cast-x
overflow_cast-x c = search (later_ends, rules)

pub returns-then-x-low : goal.returns-then-x-low
returns-then-x-low c = search (later_ends, rules)

pub returns : goal.returns
returns c = search (later_ends, rules)
