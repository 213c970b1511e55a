use Rattle.ledger.proofs.Told.{row_called}
use Rattle.ledger.proofs.Ledger.row.Goals as goal

pub returns : goal.returns
returns c = search row_called
