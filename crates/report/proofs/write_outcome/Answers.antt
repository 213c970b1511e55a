use borrow.Author.Rules.{rules}
use Rattle.report.proofs.Printed.{print_ends}
use Rattle.report.proofs.write_outcome.Goals as goal

pub returns-in-Quiet : goal.returns-in-Quiet
returns-in-Quiet c = rw c.in-Quiet.is (search (print_ends, rules))

pub returns-in-Refusal : goal.returns-in-Refusal
returns-in-Refusal c = rw c.in-Refusal.is (search (print_ends, rules))

pub returns-in-Cells : goal.returns-in-Cells
returns-in-Cells c = rw c.in-Cells.is (search (print_ends, rules))

pub returns-in-Text : goal.returns-in-Text
returns-in-Text c = rw c.in-Text.is (search (print_ends, rules))
