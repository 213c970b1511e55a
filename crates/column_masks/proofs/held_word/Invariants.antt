use mathlib.Core.Path.{◌≡◌}
use Prim.Native.Nat.{◌+◌, ◌≤◌}
use Rattle.masks.specs.Masks.{bit?}
use Rattle.rows.specs.Masks.{bits}
use Rattle.column_masks.specs.Columns.{holding}
use Rattle.column_masks.proofs.held_word.Given as goal

abbrev pub invariant-loop-rest : goal.invariant-loop-rest
invariant-loop-rest l = (l.m + l.rest ≤ l.w) × (l.m + bits (holding l.values l.p l.v.v (bit? l.rest)) 0 32 ≡ bits (holding l.values l.p l.v.v (bit? l.w)) 0 32)

abbrev pub decreases-loop-rest : goal.decreases-loop-rest
decreases-loop-rest l = l.rest
