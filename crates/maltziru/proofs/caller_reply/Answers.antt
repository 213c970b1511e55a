use Rattle.maltziru.proofs.Said.{caller_ok, caller_err}
use Rattle.maltziru.proofs.caller_reply.Goals as goal

pub returns-in-Ok : goal.returns-in-Ok
returns-in-Ok c = caller_ok c.in-Ok.is

pub returns-in-Err : goal.returns-in-Err
returns-in-Err c = caller_err c.in-Err.is c.number.ensures
