-- `value`: the capped value of the digits so far.
use mathlib.Core.Path.{◌≡◌}
use Prim.Native.Nat.{min}
use lib.ListN.{take}
use Rattle.syntax.specs.Readers.{value_from}
use Rattle.text.specs.Words.{far}
use Rattle.text.proofs.value.Given as goal

abbrev pub invariant-loop-b : goal.invariant-loop-b
invariant-loop-b l = l.v ≡ min (value_from 0 (take l.b-index l.digits)) far
