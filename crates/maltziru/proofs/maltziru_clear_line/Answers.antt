use Rattle.maltziru.proofs.Said.{ledger_later}
use Rattle.maltziru.proofs.maltziru_clear_line.Goals as goal

pub returns : goal.returns
returns c = ledger_later c.ledger_reply.ensures c.clear_line.ensures
