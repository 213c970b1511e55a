use Rattle.maltziru.proofs.Said.{grant_called}
use Rattle.maltziru.proofs.maltziru_grant.Goals as goal

pub returns : goal.returns
returns c = grant_called c.grant-g.ensures c.grant_reply.ensures
