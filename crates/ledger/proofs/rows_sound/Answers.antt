use borrow.Author.Rules.{rules}
use Rattle.schema.proofs.Tests.{streams_few}
use Rattle.ledger.proofs.Soundness.{sound_ends}
use Rattle.ledger.proofs.rows_sound.Goals as goal

pub returns-then-not-sound : goal.returns-then-not-sound
returns-then-not-sound c = search sound_ends

pub returns-then-times-lt-PLACES : goal.returns-then-times-lt-PLACES
returns-then-times-lt-PLACES c = search sound_ends

pub returns-then-values-lt-VALUES : goal.returns-then-values-lt-VALUES
returns-then-values-lt-VALUES c = search sound_ends

pub returns-then-not-rest_empty : goal.returns-then-not-rest_empty
returns-then-not-rest_empty c = search sound_ends

pub streams_steady-requires : goal.streams_steady-requires
streams_steady-requires c = search (streams_few, rules)

pub returns : goal.returns
returns c = search sound_ends
