-- `after`: what is passed and what is to be passed, from the first place on.
use mathlib.Core.Path.{◌≡◌}
use Prim.Native.Nat.{◌≤◌}
use Rattle.query_read.specs.Steps.{after_form}
use Rattle.query_read.proofs.after.Given as goal

abbrev pub invariant-loop-n : goal.invariant-loop-n
invariant-loop-n l = (after_form l.s l.second l.at l.nest ≡ after_form l.s l.second l.p l.n) × (l.n ≤ l.nest)

abbrev pub decreases-loop-n : goal.decreases-loop-n
decreases-loop-n l = l.n
