use mathlib.Core.Path.{◌≡◌}
use Prim.Native.Nat.{◌+◌, ◌-◌}
use Rattle.rows.specs.Masks.{bits}
use Rattle.column_masks.specs.Columns.{compared_at, strip}
use Rattle.column_masks.proofs.pair_word.Given as goal

abbrev pub invariant-loop-i : goal.invariant-loop-i
invariant-loop-i g l = (l.m ≡ bits (compared_at g.T.Test.op (strip l.a l.x.at l.x.step) (strip l.b l.y.at l.y.step)) (l.from + l.i) (l.n - l.i))
