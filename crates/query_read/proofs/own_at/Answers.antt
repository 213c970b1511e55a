-- `own_at`: by the form's first word.
use native.Mathlib.Omega.{arith}
use Rattle.query_read.proofs.Owning.{own_unopened, own_wordless, own_formless, own_rows, own_pick, own_keep, own_join, own_aggregate, word_beyond, fn_known}
use Rattle.query_read.proofs.own_at.Goals as goal

pub returns-in_err-o : goal.returns-in_err-o
returns-in_err-o c = search (own_unopened, c.in_err-o.ensures)

pub returns-in_err-w : goal.returns-in_err-w
returns-in_err-w c = search (own_wordless, c.in_ok-o.ensures, c.in_err-w.ensures)

pub returns-in_err-k : goal.returns-in_err-k
returns-in_err-k c = search (own_formless, c.in_ok-o.ensures, c.in_ok-w.ensures, c.in_err-k.ensures)

pub returns-then-k-eq-ROWS : goal.returns-then-k-eq-ROWS
returns-then-k-eq-ROWS c = search (own_rows, c.in_ok-o.ensures, c.in_ok-w.ensures, c.in_ok-k.ensures)

pub pick_at-requires : goal.pick_at-requires
pick_at-requires c = (omega arith, omega arith, let h = word_beyond _ _ c.in_ok-o.ensures c.in_ok-w.ensures in omega arith)

pub returns-then-k-eq-PICK : goal.returns-then-k-eq-PICK
returns-then-k-eq-PICK c = search (own_pick, c.in_ok-o.ensures, c.in_ok-w.ensures, c.in_ok-k.ensures)

pub returns-then-k-eq-KEEP : goal.returns-then-k-eq-KEEP
returns-then-k-eq-KEEP c = search (own_keep, c.in_ok-o.ensures, c.in_ok-w.ensures, c.in_ok-k.ensures)

pub returns-then-k-eq-JOIN : goal.returns-then-k-eq-JOIN
returns-then-k-eq-JOIN c = search (own_join, c.in_ok-o.ensures, c.in_ok-w.ensures, c.in_ok-k.ensures)

pub aggregate_at-requires : goal.aggregate_at-requires
aggregate_at-requires c = fn_known _ c.in_ok-k.ensures c.if-k-eq-ROWS.false c.if-k-eq-PICK.false c.if-k-eq-KEEP.false c.if-k-eq-JOIN.false

pub returns : goal.returns
returns c = search (own_aggregate, c.in_ok-o.ensures, c.in_ok-w.ensures, c.in_ok-k.ensures)
