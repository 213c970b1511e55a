-- `filled`: the numbers passed are not 0.
use mathlib.Core.Path.{◌≡◌}
use Prim.Native.Nat.{◌+◌, ◌-◌}
use Rattle.schema.specs.Schemas.{filled}
use Rattle.schema.proofs.filled.Given as goal

abbrev pub invariant-loop-i : goal.invariant-loop-i
invariant-loop-i l = (filled l.names l.at l.n ≡ l.i + filled l.names (l.at + l.i) (l.n - l.i))
