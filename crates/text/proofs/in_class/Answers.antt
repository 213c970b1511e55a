-- `in_class`: each class by its test.
use Rattle.text.proofs.Runs.{classes}
use Rattle.text.proofs.in_class.Goals as goal

pub returns-in-Alnum : goal.returns-in-Alnum
returns-in-Alnum c = search classes

pub returns-in-Digit : goal.returns-in-Digit
returns-in-Digit c = search classes

pub returns-in-Plain : goal.returns-in-Plain
returns-in-Plain c = search classes
