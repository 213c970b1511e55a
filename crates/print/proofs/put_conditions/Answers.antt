use borrow.Author.Rules.{rules}
use Rattle.print.proofs.Conditions.{when_ends}
use Rattle.print.proofs.put_conditions.Goals as goal

pub returns-then-n-eq0 : goal.returns-then-n-eq0
returns-then-n-eq0 c = search (when_ends, rules)

pub returns : goal.returns
returns c = search (when_ends, rules)
