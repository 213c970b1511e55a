use borrow.Author.Rules.{rules}
use Rattle.print.proofs.Words.{long_ends}
use Rattle.print.proofs.short_length.Goals as goal

pub returns-then-code-eq0 : goal.returns-then-code-eq0
returns-then-code-eq0 c = search (long_ends, rules)

pub returns-then-code-lt256 : goal.returns-then-code-lt256
returns-then-code-lt256 c = search (long_ends, rules)

pub returns-then-code-lt65536 : goal.returns-then-code-lt65536
returns-then-code-lt65536 c = search (long_ends, rules)

pub returns-then-code-lt16777216 : goal.returns-then-code-lt16777216
returns-then-code-lt16777216 c = search (long_ends, rules)

pub returns : goal.returns
returns c = search (long_ends, rules)
