-- `packed`: the code of the bytes so far, which fits as long as they are at most eight.
use mathlib.Core.Path.{◌≡◌}
use Prim.Native.Nat.{◌^◌, ◌<◌}
use lib.ListN.{take}
use Rattle.text.specs.Words.{code_of}
use Rattle.text.proofs.packed.Given as goal

abbrev pub invariant-loop-b : goal.invariant-loop-b
invariant-loop-b l = (l.code ≡ code_of (take l.b-index l.word)) × (l.code < 256 ^ l.b-index)
