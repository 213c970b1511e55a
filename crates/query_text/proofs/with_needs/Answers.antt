use borrow.Author.Rules.{rules}
use Rattle.query_text.proofs.Telling.{told_made}
use Rattle.query_text.proofs.with_needs.Goals as goal

pub returns : goal.returns
returns c = search (told_made, rules)
