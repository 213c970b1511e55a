use mathlib.Core.Path.{◌≡◌}
use Prim.Native.Nat.{◌+◌, ◌-◌}
use Rattle.rows.specs.Masks.{bits}
use Rattle.column_masks.specs.Columns.{compared_at, strip}
use Rattle.column_masks.proofs.value_word.Given as goal

abbrev pub invariant-loop-i : goal.invariant-loop-i
invariant-loop-i g l = (l.m ≡ bits (compared_at g.T.Test.op (strip l.values l.p 6) (λ i'. l.v.v)) (0 + l.i) (l.n - l.i))
