use mathlib.Core.Path.{◌≡◌}
use Prim.Native.Nat.{◌-◌}
use Rattle.ledger.specs.Records.{times_steady}
use Rattle.ledger.proofs.rest_steady.Given as goal

abbrev pub invariant-loop-i : goal.invariant-loop-i
invariant-loop-i l = times_steady l.times l.lowest l.clock l.at (l.end - l.at) ≡ times_steady l.times l.low l.clock l.i (l.end - l.i)
