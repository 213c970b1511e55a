use mathlib.Core.Path.{◌≡◌}
use Prim.Native.Nat.{◌≤◌}
use Rattle.conditions.specs.Steps.{after_cond}
use Rattle.conditions.proofs.after.Given as goal

abbrev pub invariant-loop-n : goal.invariant-loop-n
invariant-loop-n l = (after_cond l.s l.single l.at l.nest ≡ after_cond l.s l.single l.p l.n) × (l.n ≤ l.nest)

abbrev pub decreases-loop-n : goal.decreases-loop-n
decreases-loop-n l = l.n
