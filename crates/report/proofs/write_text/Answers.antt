use borrow.Author.Rules.{rules}
use Rattle.report.proofs.Writing.{text_written}
use Rattle.report.proofs.write_text.Goals as goal

pub returns : goal.returns
returns c = search (text_written, rules)
