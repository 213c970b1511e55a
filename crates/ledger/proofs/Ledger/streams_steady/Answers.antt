use mathlib.Core.Path.{sym, ◌∙◌}
use mathlib.Core.Bool.{true, false}
use native.Mathlib.Omega.{arith}
use Rattle.ledger.specs.Records.{stream_steady, streams_steady}
use Rattle.lists.proofs.Counting.{every_past, every_fails, every_done}
use Rattle.ledger.proofs.Bounds.{count_le, stream_tested}
use Rattle.ledger.proofs.Ledger.streams_steady.Goals as goal

pub steady-requires : goal.steady-requires
steady-requires c = omega (arith, count_le c.args.self c.loop-s.s, c.count.ensures, c.requires)

pub returns-then-not-steady : goal.returns-then-not-steady
unfolding streams_steady
returns-then-not-steady c =
    let a = c.args in
    let l = c.loop-s in
    let e = stream_tested a.self a.times.now l.s _ _ false c.count.ensures c.steady.ensures c.if-not-steady.true in
    sym (l.invariant ∙ every_fails (stream_steady a.self a.times.now) l.s a.n (omega arith) e)

pub loop-s-preserved : goal.loop-s-preserved
loop-s-preserved c =
    let a = c.args in
    let l = c.loop-s in
    let e = stream_tested a.self a.times.now l.s _ _ true c.count.ensures c.steady.ensures c.if-not-steady.false in
    l.invariant ∙ every_past (stream_steady a.self a.times.now) l.s a.n (omega arith) e

pub returns : goal.returns
unfolding streams_steady
returns c =
    let a = c.args in
    let l = c.loop-s in
    sym (l.invariant ∙ every_done (stream_steady a.self a.times.now) l.s a.n (omega arith))
