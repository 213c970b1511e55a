use borrow.Author.Rules.{rules}
use Rattle.query_text.proofs.Telling.{line_told}
use Rattle.query_text.proofs.read_line.Goals as goal

pub returns : goal.returns
returns c = search (line_told, rules)
