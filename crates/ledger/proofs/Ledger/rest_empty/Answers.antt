use mathlib.Core.Path.{sym, ◌∙◌}
use native.Mathlib.Omega.{arith}
use lib.Dec.{eqb}
use lib.ListN.{get_or}
use borrow.Author.Tests.{eq-eqb, ne_eqb}
use Rattle.ledger.specs.Records.{undeclared_empty}
use Rattle.lists.proofs.Counting.{every_past, every_fails, every_done}
use Rattle.ledger.proofs.Ledger.rest_empty.Goals as goal

pub returns-then-self-s-ne0 : goal.returns-then-self-s-ne0
unfolding undeclared_empty
returns-then-self-s-ne0 c =
    let l = c.loop-s in
    sym (l.invariant ∙ every_fails (λ i. eqb (get_or c.args.self.rows i 0) 0) l.s 4 (omega arith) (ne_eqb _ _ c.if-self-s-ne0.true))

pub loop-s-preserved : goal.loop-s-preserved
loop-s-preserved c =
    let l = c.loop-s in
    l.invariant ∙ every_past (λ i. eqb (get_or c.args.self.rows i 0) 0) l.s 4 (omega arith) (eq-eqb _ _ c.if-self-s-ne0.false)

pub returns : goal.returns
unfolding undeclared_empty
returns c =
    let l = c.loop-s in
    sym (l.invariant ∙ every_done (λ i. eqb (get_or c.args.self.rows i 0) 0) l.s 4 (omega arith))
