use mathlib.Core.Path.{refl, sym, ap, ap₂, ◌∙◌}
use native.Mathlib.Omega.{arith}
use lib.IntN.{nat_abs}
use Rattle.syntax.specs.Grammar.{numbered_fn}
use Rattle.windows.specs.Events.{with_event, event_at, span_tally}
use Rattle.windows.specs.declared.Event.{Event}
use Rattle.windows.specs.declared.Tally.{Tally}
use Rattle.windows.proofs.Spans.{span_more, span_small, window_all, window_late, more_before}
use Rattle.windows.proofs.moved.Goals as goal
use Rattle.windows.specs.Windows.{Before}
use Rattle.windows.specs.Events.{span_tally}
use lib.ListN.{length}
use Prim.Native.Nat.{◌<◌}
use mathlib.Core.Path.{◌≡◌}

pub returns-then-end-e : goal.returns-then-end-e
unfolding event_at
returns-then-end-e c =
    let a = c.args in
    let l = c.loop-j in
    let f = numbered_fn a.f in
    let ts = a.times.now in
    let cs = a.counts.now in
    let ps = a.parts.now in
    let e = ap (λ (v : Event). v.time) c.event_at-e.ensures in
    let t = ap (λ (v : Tally). v.count) l.invariant.2 in
    let q = (span_small f ts cs ps c.requires.1 a.i l.j l.invariant.0 (omega arith)).some_rows in (
      record { within = omega arith; tallied = λ h. l.invariant.2 },
      refl,
      l.invariant.1,
      l.invariant.2 ∙ window_late f ts cs ps a.end a.i l.j l.invariant.0 (omega arith) l.invariant.1 c.requires.0 (omega arith),
      omega arith,
    )

pub with-t-requires : goal.with-t-requires
unfolding event_at
with-t-requires c =
    let a = c.args in
    let l = c.loop-j in
    let e = c.event_at-e.ensures in
    let u = ap (λ (v : Event). v.count) e in
    let v = ap (λ (v : Event). nat_abs v.part) e in
    let t = ap (λ (v : Tally). v.count) l.invariant.2 in
    let g = ap (λ (v : Tally). nat_abs v.part) l.invariant.2 in
    let q = span_small (numbered_fn a.f) a.times.now a.counts.now a.parts.now c.requires.1 a.i l.j l.invariant.0 (omega arith) in
    let m = q.rows in
    let n = q.size in
    let x = c.requires.1.few_rows l.j (omega arith) in
    let y = c.requires.1.small l.j (omega arith) in
    let z = c.requires.1.events in
    (omega arith, omega arith, omega arith, omega arith)

pub loop-j-preserved : goal.loop-j-preserved
unfolding event_at
loop-j-preserved c =
    let a = c.args in
    let l = c.loop-j in
    let f = numbered_fn a.f in
    let e = c.event_at-e.ensures in
    let t = ap (λ (v : Event). v.time) e in (
      omega arith,
      more_before a.times.now l.j a.end l.invariant.1 (omega arith),
      c.with-t.ensures ∙ ap₂ (with_event f) l.invariant.2 e ∙ sym (span_more f a.times.now a.counts.now a.parts.now a.i l.j l.invariant.0),
    )

pub returns : goal.returns
returns c =
    let a = c.args in
    let l = c.loop-j in
    let f = numbered_fn a.f in
    let ts = a.times.now in
    let cs = a.counts.now in
    let ps = a.parts.now in
    let e : l.j ≡ length ts = omega (arith, c.trimmed-l.ensures.0.within) in
    let i : a.i < length ts = omega arith in
    let b : Before ts (length ts) a.end = λ m h. l.invariant.1 m (omega arith) in
    let s : l.t ≡ span_tally f ts cs ps a.i (length ts) = l.invariant.2 ∙ ap (span_tally f ts cs ps a.i) e in
    let t = ap (λ (v : Tally). v.count) s in
    let q = (span_small f ts cs ps c.requires.1 a.i (length ts) i (omega arith)).some_rows in (
      record { within = omega arith; tallied = λ h. s },
      refl,
      b,
      s ∙ window_all f ts cs ps a.end a.i (length ts) i (omega arith) b,
      omega arith,
    )
