use borrow.Author.Rules.{rules}
use Rattle.selection.proofs.Sides.{term_ends}
use Rattle.selection.proofs.side_of.Goals as goal

pub returns-then-code-lt-TIME : goal.returns-then-code-lt-TIME
returns-then-code-lt-TIME c = search (term_ends, rules)

pub returns-then-code-eq-TIME : goal.returns-then-code-eq-TIME
returns-then-code-eq-TIME c = search (term_ends, rules)

pub returns-then-code-eq-FIGURE : goal.returns-then-code-eq-FIGURE
returns-then-code-eq-FIGURE c = search (term_ends, rules)

pub number_value-requires : goal.number_value-requires
number_value-requires c = c.requires.2 c.if-code-eq-NUMBER.true

pub returns-then-code-eq-NUMBER : goal.returns-then-code-eq-NUMBER
returns-then-code-eq-NUMBER c = search (term_ends, rules)

pub returns : goal.returns
returns c = search (term_ends, rules)
