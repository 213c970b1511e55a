use mathlib.Core.Path.{◌≡◌, sym, ap, ◌∙◌}
use Prim.Native.Nat.{◌-◌, ◌+◌}
use native.Mathlib.Omega.{arith}
use Rattle.ledger.specs.Records.{times_steady}
use Rattle.ledger.proofs.Bounds.{steady_four_past, steady_four_fails}
use Rattle.ledger.proofs.steady.Goals as goal

pub loop-i-init : goal.loop-i-init
loop-i-init c =
    let a = c.args in
    let e : a.count ≡ (a.at + a.count) - a.at = omega arith in
    (omega arith, ap (times_steady a.times.now 0 a.clock a.at) e)

pub returns-then-not-rising : goal.returns-then-not-rising
returns-then-not-rising c =
    let a = c.args in
    let l = c.loop-i in
    sym (l.invariant.1 ∙ steady_four_fails a.times.now l.low l.i a.clock (a.at + a.count) (omega arith) c.rising.ensures c.if-not-rising.true)

pub loop-i-preserved : goal.loop-i-preserved
loop-i-preserved c =
    let a = c.args in
    let l = c.loop-i in
    (omega arith, l.invariant.1 ∙ steady_four_past a.times.now l.low l.i a.clock (a.at + a.count) (omega arith) c.rising.ensures c.if-not-rising.false)

pub returns : goal.returns
returns c = c.rest_steady.ensures ∙ sym c.loop-i.invariant.1
