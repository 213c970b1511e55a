use borrow.Author.Rules.{rules}
use Rattle.rows.proofs.Bits.{bit_ends}
use Rattle.rows.proofs.Rows.has_row.Goals as goal

pub returns-then-i-lt32 : goal.returns-then-i-lt32
returns-then-i-lt32 c = search (bit_ends, rules)

pub returns-then-i-lt64 : goal.returns-then-i-lt64
returns-then-i-lt64 c = search (bit_ends, rules)

pub returns-then-i-lt96 : goal.returns-then-i-lt96
returns-then-i-lt96 c = search (bit_ends, rules)

pub returns : goal.returns
returns c = search (bit_ends, rules)
