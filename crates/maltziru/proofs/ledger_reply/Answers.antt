use Rattle.maltziru.proofs.Said.{ledger_ok, ledger_err}
use Rattle.maltziru.proofs.ledger_reply.Goals as goal

pub returns-in-Ok : goal.returns-in-Ok
returns-in-Ok c = ledger_ok c.in-Ok.is

pub returns-in-Err : goal.returns-in-Err
returns-in-Err c = ledger_err c.in-Err.is c.number.ensures
