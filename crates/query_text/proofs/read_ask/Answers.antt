use borrow.Author.Rules.{rules}
use Rattle.query_text.proofs.Telling.{ask_told}
use Rattle.query_text.proofs.read_ask.Goals as goal

pub returns : goal.returns
returns c = search (ask_told, rules)
