-- `is_plain`: the three bytes that are not plain, and the others.
use Rattle.text.proofs.Runs.{classes}
use Rattle.text.proofs.is_plain.Goals as goal

pub returns-in-32 : goal.returns-in-32
returns-in-32 c = search classes

pub returns-in-40 : goal.returns-in-40
returns-in-40 c = search classes

pub returns-in-41 : goal.returns-in-41
returns-in-41 c = search classes

pub returns-in_default : goal.returns-in_default
returns-in_default c = search classes
