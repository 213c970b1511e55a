use borrow.Author.Rules.{rules}
use Rattle.route_cells.proofs.Headers.{header_put}
use Rattle.route_cells.proofs.put_header.Goals as goal

pub returns : goal.returns
returns c = search (header_put, rules)
