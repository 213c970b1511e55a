use mathlib.Core.Path.{sym, ◌∙◌}
use native.Mathlib.Omega.{arith}
use Rattle.ledger.proofs.Bounds.{steady_past, steady_fails, steady_done}
use Rattle.ledger.proofs.rest_steady.Goals as goal

pub returns-then-t-low : goal.returns-then-t-low
returns-then-t-low c =
    let a = c.args in
    let l = c.loop-i in
    sym (l.invariant ∙ steady_fails a.times.now l.low a.clock l.i a.end (omega arith) c.if-t-low.true)

pub loop-i-preserved : goal.loop-i-preserved
loop-i-preserved c =
    let a = c.args in
    let l = c.loop-i in
    l.invariant ∙ steady_past a.times.now l.low a.clock l.i a.end (omega arith) c.if-t-low.false

pub returns : goal.returns
returns c =
    let a = c.args in
    let l = c.loop-i in
    sym (l.invariant ∙ steady_done a.times.now l.low a.clock l.i a.end (omega arith))
