use Rattle.figures.proofs.Comparing.{word_front}
use borrow.Author.Rules.{rules}
use Rattle.figures.proofs.word_before.Goals as goal

pub returns-then-k-lt2 : goal.returns-then-k-lt2
returns-then-k-lt2 c = search (word_front, rules)

pub returns : goal.returns
returns c = search (word_front, rules)
