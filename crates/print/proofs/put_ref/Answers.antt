use borrow.Author.Rules.{rules}
use Rattle.print.proofs.Names.{ref_ends}
use Rattle.print.proofs.put_ref.Goals as goal

pub returns-then-code-lt-TIME : goal.returns-then-code-lt-TIME
returns-then-code-lt-TIME c = search (ref_ends, rules)

pub returns-then-code-eq-FIGURE : goal.returns-then-code-eq-FIGURE
returns-then-code-eq-FIGURE c = search (ref_ends, rules)

pub returns : goal.returns
returns c = search (ref_ends, rules)
