use mathlib.Core.Path.{ap, ap₂, ◌∙◌}
use native.Mathlib.Omega.{arith}
use lib.IntN.{nat_abs}
use Rattle.syntax.specs.Grammar.{numbered_fn}
use Rattle.windows.specs.Events.{less_event, event_at}
use Rattle.windows.specs.declared.Event.{Event}
use Rattle.windows.specs.declared.Tally.{Tally}
use Rattle.windows.proofs.Spans.{span_small, first_few, sum_less}
use Rattle.windows.proofs.trimmed.Goals as goal

pub without-t-requires : goal.without-t-requires
unfolding event_at
without-t-requires c =
    let a = c.args in
    let l = c.loop-k in
    let ts = a.times.now in
    let cs = a.counts.now in
    let ps = a.parts.now in
    let e = c.event_at-e.ensures in
    let t = l.invariant in
    let w = c.requires.2.within in
    let z = c.requires.0.events in
    let q = span_small (numbered_fn a.f) ts cs ps c.requires.0 l.k a.s.to (omega arith) (omega arith) in
    let x = first_few a.f ts cs ps (λ h. omega arith) (λ h. omega arith) l.k a.s.to (omega arith) in
    let y = c.requires.0.small l.k (omega arith) in
    let m = q.size in
    let u = ap (λ (v : Event). v.count) e in
    let v = ap (λ (v : Event). nat_abs v.part) e in
    let d = ap (λ (v : Tally). v.count) t in
    let g = ap (λ (v : Tally). nat_abs v.part) t in
    (omega arith, omega arith, omega arith)

pub loop-k-preserved : goal.loop-k-preserved
loop-k-preserved c =
    let a = c.args in
    let l = c.loop-k in
    c.without-t.ensures ∙ ap₂ less_event l.invariant c.event_at-e.ensures ∙ sum_less a.f a.times.now a.counts.now a.parts.now (λ h. omega arith) (λ h. omega arith) l.k a.s.to (omega arith)
