use Rattle.ledger.proofs.Soundness.{sound_ends}
use Rattle.ledger.proofs.sound.Goals as goal

pub returns-then-not-sound : goal.returns-then-not-sound
returns-then-not-sound c = search sound_ends

pub returns : goal.returns
returns c = search sound_ends
