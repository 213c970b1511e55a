-- `is_letter`: the lower bound by a test of its own.
use Rattle.text.proofs.Runs.{classes}
use Rattle.text.proofs.is_letter.Goals as goal

pub returns-then-b-lt97 : goal.returns-then-b-lt97
returns-then-b-lt97 c = search classes

pub returns : goal.returns
returns c = search classes
