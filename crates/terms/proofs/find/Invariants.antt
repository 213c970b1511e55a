-- `find`: no number passed is the one.
use mathlib.Core.Path.{◌≡◌}
use Prim.Native.Nat.{◌+◌, ◌-◌}
use Rattle.terms.specs.Terms.{found}
use Rattle.terms.proofs.find.Given as goal

abbrev pub invariant-loop-i : goal.invariant-loop-i
invariant-loop-i l = (found l.names l.at l.n l.code ≡ l.i + found l.names (l.at + l.i) (l.n - l.i) l.code)
