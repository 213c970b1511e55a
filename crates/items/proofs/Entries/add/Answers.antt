-- `Entries::add`: by its fields.
use borrow.Author.Rules.{rules}
use Rattle.items.specs.Items.{entry_more}
use Rattle.items.proofs.Entries.add.Goals as goal

pub returns : goal.returns
unfolding entry_more
returns c = search rules
