use borrow.Author.Rules.{rules}
use Rattle.route_cells.proofs.Headers.{cell_put}
use Rattle.route_cells.proofs.put_number.Goals as goal

pub returns : goal.returns
returns c = search (cell_put, rules)
