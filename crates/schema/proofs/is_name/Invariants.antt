-- `is_name`: the bytes passed are letters or digits, and what is left has the first.
use mathlib.Core.Path.{◌≡◌}
use Prim.Native.Nat.{◌≤◌}
use Rattle.syntax.specs.Grammar.{name?}
use Rattle.text.specs.Words.{name_of}
use Rattle.schema.proofs.is_name.Given as goal

abbrev pub invariant-loop-n : goal.invariant-loop-n
invariant-loop-n l = (l.n ≤ l.code) × (name? (name_of l.code) ≡ name? (name_of l.n))

abbrev pub decreases-loop-n : goal.decreases-loop-n
decreases-loop-n l = l.n
