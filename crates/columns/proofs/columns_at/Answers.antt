-- `columns_at`: what is read so far, joined to what is read on, is what is read from the first place on.
use borrow.Author.Rules.{rules}
use Rattle.columns.proofs.ColumnLists.{columns_ends}
use Rattle.columns.proofs.columns_at.Goals as goal

pub loop-i-init : goal.loop-i-init
loop-i-init c = (search rules, search columns_ends)

pub returns-then-ends_at : goal.returns-then-ends_at
returns-then-ends_at c = search columns_ends

pub returns-in_err-p : goal.returns-in_err-p
returns-in_err-p c = search (columns_ends, c.in_err-p.ensures)

pub returns-in_err-c : goal.returns-in_err-c
returns-in_err-c c = search (columns_ends, c.in_ok-p.ensures, c.in_err-c.ensures)

pub loop-i-smaller : goal.loop-i-smaller
loop-i-smaller c = search (columns_ends, c.in_ok-p.ensures, c.in_ok-c.ensures)

pub loop-i-preserved : goal.loop-i-preserved
loop-i-preserved c = (search rules, search (columns_ends, c.in_ok-p.ensures, c.in_ok-c.ensures))

pub returns : goal.returns
returns c = search columns_ends
