use borrow.Author.Rules.{rules}
use Rattle.conditions.specs.Seeing.{deep_seen}
use Rattle.conditions.proofs.deep_seen.Goals as goal

pub returns : goal.returns
unfolding deep_seen
returns c = search rules
