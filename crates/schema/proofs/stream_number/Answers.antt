-- `stream_number`: the streams passed have other names.
use Rattle.schema.proofs.Lookups.{seek_ends}
use Rattle.schema.proofs.stream_number.Goals as goal

pub loop-s-init : goal.loop-s-init
loop-s-init c = search seek_ends

pub returns-then-number_at-code : goal.returns-then-number_at-code
returns-then-number_at-code c = search seek_ends

pub loop-s-preserved : goal.loop-s-preserved
loop-s-preserved c = search seek_ends

pub returns : goal.returns
returns c = search seek_ends
