-- `is_name`: the bytes passed are letters or digits, and what is left has the first.
use mathlib.Core.Path.{refl}
use borrow.Author.Rules.{rules}
use Rattle.schema.proofs.FreeNames.{name_ends}
use Rattle.schema.proofs.is_name.Goals as goal

pub loop-n-init : goal.loop-n-init
loop-n-init c = (search rules, refl)

pub returns-then-not-is_alnum : goal.returns-then-not-is_alnum
returns-then-not-is_alnum c = search name_ends

pub loop-n-preserved : goal.loop-n-preserved
loop-n-preserved c = (search rules, search name_ends)

pub returns : goal.returns
returns c = search name_ends
