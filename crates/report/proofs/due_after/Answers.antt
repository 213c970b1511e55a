use borrow.Author.Rules.{rules}
use Rattle.report.proofs.Dues.{after_ends}
use Rattle.report.proofs.Numbers.{size_read}
use Rattle.report.proofs.due_after.Goals as goal

pub returns-in-Routes : goal.returns-in-Routes
returns-in-Routes c = search (after_ends, rules)

pub returns-in-Grant : goal.returns-in-Grant
returns-in-Grant c = search (after_ends, rules)

pub returns-in-Partner : goal.returns-in-Partner
returns-in-Partner c = search (after_ends, rules)

pub returns-in-Width : goal.returns-in-Width
returns-in-Width c = search (after_ends, size_read, rules)

pub returns-in-Rows : goal.returns-in-Rows
returns-in-Rows c = search (after_ends, size_read, rules)

pub returns-in-Cell : goal.returns-in-Cell
returns-in-Cell c = search (after_ends, rules)
