-- `put_form`: the five words of its form, or no room for it.
use native.Mathlib.Omega.{arith}
use lib.ListN.{length-set}
use Rattle.query.proofs.Rewritten.{put_ends}
use Rattle.query.proofs.put_form.Goals as goal

pub returns-then-n-ge-TABLE_FORMS : goal.returns-then-n-ge-TABLE_FORMS
returns-then-n-ge-TABLE_FORMS c = search put_ends

pub returns-then-table-lt-TABLE_WORDS : goal.returns-then-table-lt-TABLE_WORDS
returns-then-table-lt-TABLE_WORDS c = search put_ends

pub bounds-table-k-2 : goal.bounds-table-k-2
bounds-table-k-2 c = simp length-set (omega arith)

pub bounds-table-k-3 : goal.bounds-table-k-3
bounds-table-k-3 c = simp length-set (omega arith)

pub bounds-table-k-4 : goal.bounds-table-k-4
bounds-table-k-4 c = simp length-set (omega arith)

pub bounds-table-k-5 : goal.bounds-table-k-5
bounds-table-k-5 c = simp length-set (omega arith)

pub returns : goal.returns
returns c = search put_ends
