-- `known`: the values passed are of 32 bits.
use Prim.Native.Nat.{ℕ, ◌<◌}
use lib.IntN.{pos}
use lib.Dec.{T}
use lib.ListN.{get_or}
use Rattle.syntax.specs.Limits.{is_value}
use Rattle.caller.proofs.known.Given as goal

abbrev pub invariant-loop-v : goal.invariant-loop-v
invariant-loop-v l = (k : ℕ) → k < l.v-index → T (is_value (get_or l.v-items k (pos 0)))
