use Rattle.maltziru.proofs.Said.{row_called}
use Rattle.maltziru.proofs.maltziru_row.Goals as goal

pub returns : goal.returns
returns c = row_called _ c.ledger_reply.ensures c.row-r.ensures
