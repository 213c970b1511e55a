-- `packed`: the code of the bytes so far, which fits as long as they are at most eight.
use native.Mathlib.Omega.{arith}
use mathlib.Core.Path.{refl}
use Prim.Native.Nat.{◌<◌}
use lib.ListN.{get_or}
use Rattle.text.specs.Words.{code_from, code_of}
use Rattle.text.proofs.Codes.{code_more, code_wider, code_times}
use Rattle.text.proofs.packed.Goals as goal

pub loop-b-init : goal.loop-b-init
unfolding code_of code_from
loop-b-init c = (refl, omega arith)

pub overflow_mul-code : goal.overflow_mul-code
overflow_mul-code c = record { fits = code_times c.loop-b.b-index (omega arith) c.loop-b.invariant.1 }

pub loop-b-preserved : goal.loop-b-preserved
loop-b-preserved c =
    let l = c.loop-b in
    let w = c.args.word.now in
    let o : get_or w l.b-index 0 < 256 = omega (arith, c.type_inv.word l.b-index) in
    (code_more w l.b-index (omega arith) l.invariant.0, code_wider l.b-index l.invariant.1 o)
