use borrow.Author.Rules.{rules}
use Rattle.print.proofs.Words.{long_ends}
use Rattle.print.proofs.word_length.Goals as goal

pub returns-then-code-lt4294967296 : goal.returns-then-code-lt4294967296
returns-then-code-lt4294967296 c = search (long_ends, rules)

pub returns-then-code-lt1099511627776 : goal.returns-then-code-lt1099511627776
returns-then-code-lt1099511627776 c = search (long_ends, rules)

pub returns-then-code-lt281474976710656 : goal.returns-then-code-lt281474976710656
returns-then-code-lt281474976710656 c = search (long_ends, rules)

pub returns-then-code-lt72057594037927936 : goal.returns-then-code-lt72057594037927936
returns-then-code-lt72057594037927936 c = search (long_ends, rules)

pub returns : goal.returns
returns c = search (long_ends, rules)
