use Rattle.ledger.specs.Records.{Memory, memory_sound}
use Rattle.caller.specs.Callers.{caller_sound}
use Rattle.ask.proofs.Called.{lent_catalogue, lent_caller, lent_record}
use Rattle.ask.proofs.may_be_lent.Goals as goal
use Rattle.ask.proofs.may_be_lent.Goals.{Start}

abbrev memory : Start → Memory
memory c = record { ledger = c.args.l; names = c.args.names.now; times = c.args.times.now; values = c.args.values.now }

pub returns-then-not-sound : goal.returns-then-not-sound
returns-then-not-sound c = lent_catalogue (memory_sound (memory (goal.at.returns-then-not-sound c).Start)) c.args.sound (caller_sound c.args.who) c.if-not-sound.true-raw

pub returns-then-not-sound-2 : goal.returns-then-not-sound-2
returns-then-not-sound-2 c = lent_caller (memory_sound (memory (goal.at.returns-then-not-sound-2 c).Start)) c.args.sound (caller_sound c.args.who) c.sound.ensures c.if-not-sound-2.true-raw

pub returns : goal.returns
returns c = lent_record _ _ _ c.if-not-sound.false-raw c.sound.ensures c.if-not-sound-2.false-raw c.sound-2.ensures
