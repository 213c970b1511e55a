-- `is_alnum`: a letter, or else a digit.
use Rattle.text.proofs.Runs.{classes}
use Rattle.text.proofs.is_alnum.Goals as goal

pub returns-then-is_letter : goal.returns-then-is_letter
returns-then-is_letter c = search classes

pub returns : goal.returns
returns c = search classes
