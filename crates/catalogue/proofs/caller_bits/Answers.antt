-- `caller_bits`: whose it is, then what it opens.
use borrow.Author.Rules.{rules}
use Rattle.catalogue.proofs.Taken.{bits_ends}
use Rattle.catalogue.proofs.caller_bits.Goals as goal

pub returns-then-not-belongs : goal.returns-then-not-belongs
returns-then-not-belongs c = search (bits_ends, rules)

pub returns : goal.returns
returns c = search (bits_ends, rules)
