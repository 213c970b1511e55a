-- `all_sound`: by both tests.
use Rattle.caller.proofs.CodeTests.{names_sounds}
use Rattle.caller.proofs.all_sound.Goals as goal

pub returns-then-not-all_valid : goal.returns-then-not-all_valid
returns-then-not-all_valid c = search names_sounds

pub returns : goal.returns
returns c = search names_sounds
