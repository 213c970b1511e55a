use Rattle.maltziru.proofs.Said.{clock_later}
use Rattle.maltziru.proofs.maltziru_clock.Goals as goal

pub returns : goal.returns
returns c = clock_later c.args.ledger _ c.ranges.time c.ledger_reply.ensures c.clock.ensures
