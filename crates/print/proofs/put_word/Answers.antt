use borrow.Author.Rules.{rules}
use Rattle.print.proofs.Words.{word_put}
use Rattle.print.proofs.put_word.Goals as goal

pub returns : goal.returns
returns c = search (word_put, rules)
