use borrow.Author.Rules.{rules}
use Rattle.grant_line.specs.Parts.{shown_all}
use Rattle.grant_line.proofs.shown_all.Goals as goal

pub returns : goal.returns
unfolding shown_all
returns c = search rules
