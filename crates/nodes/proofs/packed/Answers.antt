use borrow.Author.Rules.{rules}
use Rattle.nodes.specs.Storing.{head_word}
use Rattle.nodes.proofs.packed.Goals as goal

pub returns : goal.returns
unfolding head_word
returns c = search rules
