use Rattle.maltziru.proofs.Said.{caller_later}
use Rattle.maltziru.proofs.maltziru_caller.Goals as goal

pub returns : goal.returns
returns c = caller_later c.caller_reply.ensures c.with_line.ensures
