-- `streams`: the first of the names.
use Rattle.schema.proofs.Tests.{streams_filled}
use Rattle.schema.proofs.streams.Goals as goal

pub returns : goal.returns
returns c = search streams_filled
