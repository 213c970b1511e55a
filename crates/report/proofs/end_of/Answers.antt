use borrow.Author.Rules.{rules}
use Rattle.report.proofs.Dues.{end_ends}
use Rattle.report.proofs.end_of.Goals as goal

pub returns-in-Routes : goal.returns-in-Routes
returns-in-Routes c = search (end_ends, rules)

pub returns-in-Grant : goal.returns-in-Grant
returns-in-Grant c = search (end_ends, rules)

pub returns-in-Partner : goal.returns-in-Partner
returns-in-Partner c = search (end_ends, rules)

pub returns-in-Width : goal.returns-in-Width
returns-in-Width c = search (end_ends, rules)

pub returns-in-Rows : goal.returns-in-Rows
returns-in-Rows c = search (end_ends, rules)

pub returns-in-Cell : goal.returns-in-Cell
returns-in-Cell c = search (end_ends, rules)
