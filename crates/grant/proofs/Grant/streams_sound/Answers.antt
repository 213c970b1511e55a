use Rattle.grant.proofs.Tests.{stream_ends}
use Rattle.grant.proofs.Grant.streams_sound.Goals as goal

pub returns-then-self-eq0 : goal.returns-then-self-eq0
returns-then-self-eq0 c = search stream_ends

pub returns-then-self-gt-STREAMS : goal.returns-then-self-gt-STREAMS
returns-then-self-gt-STREAMS c = search stream_ends

pub returns-then-n-first : goal.returns-then-n-first
returns-then-n-first c = search stream_ends

pub returns-then-self-eq1 : goal.returns-then-self-eq1
returns-then-self-eq1 c = search stream_ends

pub returns-then-n-second : goal.returns-then-n-second
returns-then-n-second c = search stream_ends

pub returns : goal.returns
returns c = search stream_ends
