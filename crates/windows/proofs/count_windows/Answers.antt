use mathlib.Core.Path.{ap}
use Prim.Native.Nat.{◌+◌}
use native.Mathlib.Omega.{arith}
use lib.ListN.{length}
use Rattle.windows.proofs.Skips.{answers_all, run_length, skip_all, ahead_falls}
use Rattle.windows.proofs.Runs.{sought_is, found_last}
use Rattle.windows.proofs.count_windows.Goals as goal

pub loop-place-init : goal.loop-place-init
loop-place-init c =
    let a = c.args in
    (0, c.next-place.ensures, omega arith, omega arith, λ f cs ps. let e = ap length (answers_all a.w f a.times.now cs ps) in omega arith)

pub overflow_sub-run : goal.overflow_sub-run
overflow_sub-run c =
    let l = c.loop-place in
    let p = sought_is c.args.w c.args.times.now l.invariant.0 l.invariant.1 c.in-Some.is in
    let z = found_last c.args.w c.args.times.now l.invariant.0 c.requires.0 p c.last_with-last.ensures in
    omega (arith, z.on)

pub overflow_add-run : goal.overflow_add-run
overflow_add-run c =
    let l = c.loop-place in
    let p = sought_is c.args.w c.args.times.now l.invariant.0 l.invariant.1 c.in-Some.is in
    let z = found_last c.args.w c.args.times.now l.invariant.0 c.requires.0 p c.last_with-last.ensures in
    omega (arith, z.few)

pub overflow_add-result : goal.overflow_add-result
overflow_add-result c =
    let l = c.loop-place in
    let p = sought_is c.args.w c.args.times.now l.invariant.0 l.invariant.1 c.in-Some.is in
    let z = found_last c.args.w c.args.times.now l.invariant.0 c.requires.0 p c.last_with-last.ensures in
    let q = l.invariant.2 in
    omega (arith, z.on, z.few, p.from)

pub returns-then-room-rows : goal.returns-then-room-rows
returns-then-room-rows c =
    let a = c.args in
    let l = c.loop-place in
    let p = sought_is c.args.w c.args.times.now l.invariant.0 l.invariant.1 c.in-Some.is in
    let z = found_last c.args.w c.args.times.now l.invariant.0 c.requires.0 p c.last_with-last.ensures in
    let q = l.invariant.2 in
    let o = z.on in
    λ f cs ps.
    let e = l.invariant.4 f cs ps in
    let g = run_length a.w f a.times.now cs ps l.invariant.0 c.in-Some.p c.requires.0.offset c.requires.1 p (c.last_with-last.result + 1) (omega arith) z.runs in
    omega arith

pub overflow_add-last : goal.overflow_add-last
overflow_add-last c =
    let l = c.loop-place in
    let p = sought_is c.args.w c.args.times.now l.invariant.0 l.invariant.1 c.in-Some.is in
    let z = found_last c.args.w c.args.times.now l.invariant.0 c.requires.0 p c.last_with-last.ensures in
    omega (arith, z.few)

pub next-place-requires-in-Some : goal.next-place-requires-in-Some
next-place-requires-in-Some c =
    let l = c.loop-place in
    let p = sought_is c.args.w c.args.times.now l.invariant.0 l.invariant.1 c.in-Some.is in
    let z = found_last c.args.w c.args.times.now l.invariant.0 c.requires.0 p c.last_with-last.ensures in
    let n = z.next in
    (c.requires.0, c.requires.1, c.requires.2, n.0, n.1, n.2)

pub loop-place-smaller : goal.loop-place-smaller
loop-place-smaller c =
    let a = c.args in
    let l = c.loop-place in
    let p = sought_is c.args.w c.args.times.now l.invariant.0 l.invariant.1 c.in-Some.is in
    let z = found_last c.args.w c.args.times.now l.invariant.0 c.requires.0 p c.last_with-last.ensures in
    let o = z.on in
    ahead_falls a.w a.times.now l.invariant.0 c.in-Some.p (c.last_with-last.result + 1) c.requires.0.offset p (omega arith) c.in-Some.is c.next-place-in-Some.result c.next-place-in-Some.ensures

pub loop-place-preserved : goal.loop-place-preserved
loop-place-preserved c =
    let a = c.args in
    let l = c.loop-place in
    let p = sought_is c.args.w c.args.times.now l.invariant.0 l.invariant.1 c.in-Some.is in
    let z = found_last c.args.w c.args.times.now l.invariant.0 c.requires.0 p c.last_with-last.ensures in
    let k = p.from in
    let q = l.invariant.2 in
    let r = l.invariant.3 in
    let o = z.on in
    let n = c.last_with-last.result + 1 in (
      n,
      c.next-place-in-Some.ensures,
      omega arith,
      omega arith,
      λ f cs ps. let e = l.invariant.4 f cs ps in let g = run_length a.w f a.times.now cs ps l.invariant.0 c.in-Some.p c.requires.0.offset c.requires.1 p n (omega arith) z.runs in omega arith,
    )

pub returns : goal.returns
returns c =
    let a = c.args in
    let l = c.loop-place in
    let s = sought_is a.w a.times.now l.invariant.0 l.invariant.1 c.in_default.is in
    let r = l.invariant.3 in
    λ f cs ps.
    let e = l.invariant.4 f cs ps in
    let g = ap length (skip_all a.w f a.times.now cs ps l.invariant.0 s) in
    omega arith
