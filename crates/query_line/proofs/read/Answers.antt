-- `read`: by whether a query was read.
use Rattle.query_line.proofs.Verdicts.{asks_none, asks_few, asks_some}
use Rattle.query_line.proofs.read.Goals as goal

pub returns-in_err-r : goal.returns-in_err-r
returns-in_err-r c = search (asks_none, c.in_err-r.ensures)

pub placed-p-requires : goal.placed-p-requires
placed-p-requires c = search (asks_few, c.in_ok-r.ensures)

pub returns : goal.returns
returns c = search (asks_some, c.in_ok-r.ensures)
