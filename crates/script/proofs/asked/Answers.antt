use borrow.Author.Rules.{rules}
use Rattle.script.proofs.Opening.{plain_prepared, answers_said}
use Rattle.script.proofs.asked.Goals as goal

pub answered-requires : goal.answered-requires
answered-requires c = search (plain_prepared, rules)

pub returns : goal.returns
returns c = search (answers_said, rules)
