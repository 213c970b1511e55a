use mathlib.Core.Path.{refl, sym, subst, ◌∙◌}
use mathlib.Core.List.{List}
use Prim.Native.Nat.{ℕ, ◌+◌}
use native.Mathlib.Omega.{arith}
use Rattle.syntax.specs.Grammar.{numbered_fn}
use Rattle.model.specs.Queries.{Row}
use Rattle.windows.specs.Events.{events_from}
use Rattle.windows.specs.Windows.{answers_from, run_rows}
use Rattle.windows.proofs.Skips.{answers_all, sought_run, skip_all, ahead_falls}
use Rattle.windows.proofs.Runs.{sought_is, found_last}
use Rattle.windows.proofs.Spans.{kept_on, kept_none}
use Rattle.windows.proofs.Picks.{run_single, run_few}
use Rattle.windows.proofs.visit.Goals as goal

pub loop-place-init : goal.loop-place-init
loop-place-init g c =
    let a = c.args in
    let e = c.no_rows-r.ensures in
    let z = e.0 in (
      0,
      c.next-place.ensures,
      omega arith,
      refl,
      λ c' n t. subst (λ (rs : List Row). g.S.Sink.taken a.sink.now rs a.cells.now 0 c' n) (sym (answers_all a.w (numbered_fn a.w.number) a.times.now a.counts.now a.parts.now)) (subst (λ (r : ℕ). g.S.Sink.taken a.sink.now (answers_from a.w (numbered_fn a.w.number) (events_from a.times.now a.counts.now a.parts.now 0) 0) a.cells.now r c' n) z t),
      kept_none a.w (numbered_fn a.w.number) a.times.now a.counts.now a.parts.now 0 e.1 e.2,
    )

pub visit_run-r-requires : goal.visit_run-r-requires
visit_run-r-requires g c =
    let a = c.args in
    let l = c.loop-place in
    let p = sought_is a.w a.times.now l.invariant.0 l.invariant.1 c.in-Some.is in
    let z = found_last a.w a.times.now l.invariant.0 c.requires.0 p c.last_with-last.ensures in
    let k = p.from in
    (c.requires.0, c.requires.1, c.requires.2, omega (arith, l.invariant.2), z.on, z.runs, kept_on a.w (numbered_fn a.w.number) a.times.now a.counts.now a.parts.now l.invariant.0 c.in-Some.p.window l.invariant.5 k, c.requires.3)

pub overflow_add-last : goal.overflow_add-last
overflow_add-last g c =
    let a = c.args in
    let l = c.loop-place in
    let p = sought_is a.w a.times.now l.invariant.0 l.invariant.1 c.in-Some.is in
    let z = found_last a.w a.times.now l.invariant.0 c.requires.0 p c.last_with-last.ensures in
    omega (arith, z.few)

pub next-place-requires-in-Some : goal.next-place-requires-in-Some
next-place-requires-in-Some g c =
    let a = c.args in
    let l = c.loop-place in
    let p = sought_is a.w a.times.now l.invariant.0 l.invariant.1 c.in-Some.is in
    let z = found_last a.w a.times.now l.invariant.0 c.requires.0 p c.last_with-last.ensures in
    let n = z.next in
    (c.requires.0, c.requires.1, c.requires.2.events, n.0, n.1, n.2)

pub loop-place-smaller : goal.loop-place-smaller
loop-place-smaller g c =
    let a = c.args in
    let l = c.loop-place in
    let p = sought_is a.w a.times.now l.invariant.0 l.invariant.1 c.in-Some.is in
    let z = found_last a.w a.times.now l.invariant.0 c.requires.0 p c.last_with-last.ensures in
    let o = z.on in
    ahead_falls a.w a.times.now l.invariant.0 c.in-Some.p (c.last_with-last.result + 1) c.requires.0.offset p (omega arith) c.in-Some.is c.next-place-in-Some.result c.next-place-in-Some.ensures

pub loop-place-preserved : goal.loop-place-preserved
loop-place-preserved g c =
    let a = c.args in
    let l = c.loop-place in
    let p = sought_is a.w a.times.now l.invariant.0 l.invariant.1 c.in-Some.is in
    let z = found_last a.w a.times.now l.invariant.0 c.requires.0 p c.last_with-last.ensures in
    let o = z.on in
    let q = p.from in
    let n = c.last_with-last.result + 1 in
    let m = sought_run a.w (numbered_fn a.w.number) a.times.now a.counts.now a.parts.now l.invariant.0 c.in-Some.p c.requires.0.offset c.requires.1 p n (omega arith) z.runs in
    let u = run_few a.w (numbered_fn a.w.number) a.times.now a.counts.now a.parts.now c.in-Some.p.event c.in-Some.p.window n in
    let b = c.visit_run-r.ensures.0 in
    let k = c.requires.3 in
    let f = numbered_fn a.w.number in
    let run = run_rows a.w f a.times.now a.counts.now a.parts.now c.in-Some.p.event c.in-Some.p.window n in
    let rest = answers_from a.w f (events_from a.times.now a.counts.now a.parts.now 0) n in
    let few = k.few a.sink.now run l.cells c.visit_run-r.new.cells l.r.rows c.visit_run-r.result.rows b in (
      n,
      c.next-place-in-Some.ensures,
      omega arith,
      k.sized a.sink.now run l.cells c.visit_run-r.new.cells l.r.rows c.visit_run-r.result.rows b ∙ l.invariant.3,
      λ c' r t. l.invariant.4 c' r (subst (λ (rs : List Row). g.S.Sink.taken a.sink.now rs l.cells l.r.rows c' r) (sym m) (k.append a.sink.now run rest l.cells c.visit_run-r.new.cells c' l.r.rows c.visit_run-r.result.rows r (run_single a.w (numbered_fn a.w.number) a.times.now a.counts.now a.parts.now c.in-Some.p.event c.in-Some.p.window n) b t)),
      c.visit_run-r.ensures.1,
    )

pub returns : goal.returns
returns g c =
    let a = c.args in
    let l = c.loop-place in
    let s = sought_is a.w a.times.now l.invariant.0 l.invariant.1 c.in_default.is in
    let d = skip_all a.w (numbered_fn a.w.number) a.times.now a.counts.now a.parts.now l.invariant.0 s in
    l.invariant.4 l.cells l.r.rows (subst (λ (rs : List Row). g.S.Sink.taken a.sink.now rs l.cells l.r.rows l.cells l.r.rows) (sym d) (c.requires.3.none _ _ _))
