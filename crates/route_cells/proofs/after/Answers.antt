use borrow.Author.Rules.{rules}
use Rattle.route_cells.proofs.Headers.{after_ends, product_fits, after_fits}
use Rattle.route_cells.proofs.after.Goals as goal

pub returns-then-room-width : goal.returns-then-room-width
returns-then-room-width c = search (after_ends, rules)

pub overflow_mul-result : goal.overflow_mul-result
overflow_mul-result c = search (product_fits, rules)

pub overflow_add-result-3 : goal.overflow_add-result-3
overflow_add-result-3 c = search (after_fits, rules)

pub returns : goal.returns
returns c = search (after_ends, rules)
