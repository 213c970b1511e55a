use mathlib.Core.Path.{◌≡◌, refl}
use Prim.Native.Nat.{◌+◌, ◌<◌}
use native.Mathlib.Numerals.{add-one}
use native.Mathlib.Omega.{arith}
use lib.IntN.{pos}
use lib.ListN.{length, get_or, length-set}
use lib.Seq.{paste-zero, paste-suc}
use mir.Syntax.{w32}
use mir.Val.{to_z, of_z}
use borrow.Author.Rules.{rules}
use Rattle.ledger.proofs.put.Goals as goal

pub loop-c-init : goal.loop-c-init
loop-c-init c = (paste-zero c.args.values.now c.args.at c.args.vs.now, refl)

pub loop-c-preserved : goal.loop-c-preserved
loop-c-preserved c =
    let l = c.loop-c in
    let a = c.args in
    let d = a.values.now in
    let vs = a.vs.now in
    let x = get_or vs l.c (pos 0) in
    let e : to_z w32 (of_z w32 x) ≡ x = search rules in
    let hd : a.at + l.c < length d = omega arith in
    let hs : l.c < length vs = omega arith in
    (rw (e, l.invariant.0, paste-suc d a.at vs l.c (pos 0) hd hs, add-one), simp length-set (omega arith))

pub returns : goal.returns
returns c =
    let l = c.loop-c in
    let e : l.c ≡ length c.args.vs.now = omega arith in
    rw e at l.invariant.0
