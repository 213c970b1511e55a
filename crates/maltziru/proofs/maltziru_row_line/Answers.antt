use Rattle.maltziru.proofs.Said.{row_line_called}
use Rattle.maltziru.proofs.maltziru_row_line.Goals as goal

pub returns : goal.returns
returns c = row_line_called _ c.ledger_reply.ensures c.row_line-r.ensures
