use mathlib.Core.Path.{sym, ap, subst, ◌∙◌}
use mathlib.Core.List.{List, [], ◌∷◌}
use Prim.Native.Nat.{◌+◌}
use native.Mathlib.Omega.{arith}
use Rattle.syntax.specs.Grammar.{numbered_fn}
use Rattle.model.specs.Queries.{Row}
use Rattle.windows.specs.Events.{figure_in}
use Rattle.windows.specs.Windows.{run_rows}
use Rattle.figures.specs.Figures.{row_of}
use Rattle.windows.proofs.Skips.{held_below}
use Rattle.windows.proofs.Spans.{kept_on, kept_next}
use Rattle.windows.proofs.Picks.{one_single, run_next, run_done}
use Rattle.windows.proofs.visit_run.Goals as goal

pub overflow_add-window-end : goal.overflow_add-window-end
overflow_add-window-end g c =
    let a = c.args in
    omega (arith, held_below a.w a.times.now a.run.last a.run.event c.requires.0.offset (c.requires.5 a.run.last (omega arith) (omega arith)), c.requires.0.clock)

pub loop-window-preserved : goal.loop-window-preserved
loop-window-preserved g c =
    let a = c.args in
    let l = c.loop-window in
    let j = l.window in
    let v = c.answer_of-a in
    let p = c.moved-span in
    let b = c.put-r.ensures in
    let k = c.requires.7 in
    let rest = run_rows a.w (numbered_fn a.w.number) a.times.now a.counts.now a.parts.now a.run.event (j + 1) (a.run.last + 1) in
    let few = k.few a.sink.now (row_of v.result ∷ []) l.cells c.put-r.new.cells l.r c.put-r.result b in
    let m = run_next a.w (numbered_fn a.w.number) a.times.now a.counts.now a.parts.now a.run.event j (a.run.last + 1) (omega arith) v.result v.ensures.0 (v.ensures.1 ∙ ap (figure_in (numbered_fn a.w.number)) p.ensures.3) in (
      omega arith,
      k.sized a.sink.now (row_of v.result ∷ []) l.cells c.put-r.new.cells l.r c.put-r.result b ∙ l.invariant.1,
      λ c' n t. l.invariant.2 c' n (subst (λ (rs : List Row). g.S.Sink.taken a.sink.now rs l.cells l.r c' n) (sym m) (k.append a.sink.now (row_of v.result ∷ []) rest l.cells c.put-r.new.cells c' l.r c.put-r.result n (one_single v.result) b t)),
      kept_next a.w (numbered_fn a.w.number) a.times.now a.counts.now a.parts.now j a.run.event (c.requires.5 j (omega arith) (omega arith)) p.ensures.0 p.ensures.1 (λ m b. omega (arith, p.ensures.2 m b)),
    )

pub returns : goal.returns
returns g c =
    let a = c.args in
    let l = c.loop-window in
    let d = run_done a.w (numbered_fn a.w.number) a.times.now a.counts.now a.parts.now a.run.event l.window (a.run.last + 1) (omega arith) in (
      l.invariant.2 l.cells l.r (subst (λ (rs : List Row). g.S.Sink.taken a.sink.now rs l.cells l.r l.cells l.r) (sym d) (c.requires.7.none _ _ _)),
      kept_on a.w (numbered_fn a.w.number) a.times.now a.counts.now a.parts.now l.window (a.run.last + 1) l.invariant.3 (omega arith),
    )
