-- `Values::add`: by its fields.
use borrow.Author.Rules.{rules}
use Rattle.text.proofs.Found.{none_is}
use Rattle.items.specs.Items.{value_more}
use Rattle.items.proofs.Values.add.Goals as goal

pub returns : goal.returns
unfolding value_more
returns c = let k = none_is c.args.v c.is_none.ensures in search rules
