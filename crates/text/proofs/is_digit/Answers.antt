-- `is_digit`: the lower bound by a test of its own.
use Rattle.text.proofs.Runs.{classes}
use Rattle.text.proofs.is_digit.Goals as goal

pub returns-then-b-lt48 : goal.returns-then-b-lt48
returns-then-b-lt48 c = search classes

pub returns : goal.returns
returns c = search classes
