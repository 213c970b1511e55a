use borrow.Author.Rules.{rules}
use Rattle.grant_line.specs.Parts.{shown_listed}
use Rattle.grant_line.proofs.shown_listed.Goals as goal

pub returns : goal.returns
unfolding shown_listed
returns c = search rules
