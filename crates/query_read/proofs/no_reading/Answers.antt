-- `no_reading`: by its fields.
use Rattle.query_read.proofs.Leaves.{reading_nothing}
use Rattle.query_read.proofs.no_reading.Goals as goal

pub returns : goal.returns
returns c = search reading_nothing
