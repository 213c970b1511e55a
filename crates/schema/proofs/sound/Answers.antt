-- `sound`: test by test.
use Rattle.schema.proofs.Tests.{streams_few, streams_room, sound_ends}
use Rattle.schema.proofs.sound.Goals as goal

pub returns-then-names-lt-NAMES : goal.returns-then-names-lt-NAMES
returns-then-names-lt-NAMES c = search sound_ends

pub overflow_sub-n : goal.overflow_sub-n
overflow_sub-n c = search streams_few

pub zeros-requires : goal.zeros-requires
zeros-requires c = search streams_room

pub returns-then-not-zeros : goal.returns-then-not-zeros
returns-then-not-zeros c = search sound_ends

pub named-requires : goal.named-requires
named-requires c = search streams_room

pub returns-then-not-named : goal.returns-then-not-named
returns-then-not-named c = search sound_ends

pub returns : goal.returns
returns c = search sound_ends
