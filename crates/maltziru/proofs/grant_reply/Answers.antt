use Rattle.maltziru.proofs.Said.{grant_ok, grant_err}
use Rattle.maltziru.proofs.grant_reply.Goals as goal

pub returns-in-Ok : goal.returns-in-Ok
returns-in-Ok c = grant_ok c.in-Ok.is

pub returns-in-Err : goal.returns-in-Err
returns-in-Err c = grant_err c.in-Err.is c.number.ensures
