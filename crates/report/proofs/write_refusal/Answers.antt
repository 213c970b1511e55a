use borrow.Author.Rules.{rules}
use Rattle.report.proofs.Writing.{refusal_written}
use Rattle.report.proofs.write_refusal.Goals as goal

pub returns : goal.returns
returns c = search (refusal_written, rules)
