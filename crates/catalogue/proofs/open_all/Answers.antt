-- `open_all`: one grant more in its place; all those that have a place are all.
use borrow.Author.Rules.{rules}
use Rattle.catalogue.proofs.Taken.{taken_ends}
use Rattle.catalogue.proofs.open_all.Goals as goal

pub loop-i-init : goal.loop-i-init
loop-i-init c = search taken_ends

pub loop-i-preserved : goal.loop-i-preserved
loop-i-preserved c = search taken_ends

pub returns : goal.returns
returns c = search (taken_ends, rules)
