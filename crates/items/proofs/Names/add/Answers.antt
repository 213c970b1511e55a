-- `Names::add`: by its fields.
use borrow.Author.Rules.{rules}
use Rattle.items.specs.Items.{name_more}
use Rattle.items.proofs.Names.add.Goals as goal

pub returns : goal.returns
unfolding name_more
returns c = search rules
