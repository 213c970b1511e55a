use mathlib.Core.Path.{◌≡◌}
use Prim.Native.Nat.{◌+◌}
use Rattle.rows.specs.Masks.{bits}
use Rattle.time_masks.specs.Times.{timed}
use Rattle.time_masks.proofs.time_rows.Given as goal

abbrev pub invariant-loop-i : goal.invariant-loop-i
invariant-loop-i l =
    (l.a ≡ bits (timed l.times l.low l.high) l.from l.i) × (l.b ≡ bits (timed l.times l.low l.high) (l.from + 32) l.i) × (l.c ≡ bits (timed l.times l.low l.high) (l.from + 64) l.i) × (l.d ≡ bits (timed l.times l.low l.high) (l.from + 96) l.i)
