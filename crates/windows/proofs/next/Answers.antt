use mathlib.Core.Path.{◌≡◌, refl}
use Prim.Native.Nat.{◌-◌, ◌≤◌, ◌<◌}
use native.Mathlib.Omega.{arith}
use lib.ListN.{length, get_or}
use Rattle.windows.proofs.Jumps.{idle_past, idle_split, reached_before, jump_bound, jump_from, jump_before, jump_idle}
use Rattle.windows.proofs.next.Goals as goal

pub returns-then-times-event : goal.returns-then-times-event
returns-then-times-event c =
    let a = c.args in
    let l = c.loop-start in
    let f = c.first_from-event in
    let e : f.result ≡ length a.times.now = omega arith in
    let b = reached_before a.times.now l.event l.start f.result l.invariant.4 f.ensures in
    idle_split a.w a.times.now a.k l.window l.invariant.5 (λ j h. idle_past a.w a.times.now l.window j (λ m n. let q = b m (omega arith) in omega arith) h)

pub loop-start-preserved : goal.loop-start-preserved
loop-start-preserved c =
    let a = c.args in
    let l = c.loop-start in
    let f = c.first_from-event in
    let n : f.result < length a.times.now = omega arith in
    let g : a.w.size ≤ get_or a.times.now f.result 0 - l.start = omega arith in
    (refl, jump_bound a.w a.times.now a.k l.window l.start l.event f.result c.requires.0 c.requires.1 l.invariant.0 f.ensures n g, omega (arith, jump_from a.w a.times.now a.k l.window l.start l.event f.result c.requires.0 c.requires.1 l.invariant.0 f.ensures n g), omega arith, jump_before a.w a.times.now a.k l.window l.start l.event f.result c.requires.0 c.requires.1 l.invariant.0 f.ensures n g l.invariant.4, jump_idle a.w a.times.now a.k l.window l.start l.event f.result c.requires.0 c.requires.1 l.invariant.0 f.ensures n g l.invariant.4 l.invariant.5)
