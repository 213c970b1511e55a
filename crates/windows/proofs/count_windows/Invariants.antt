use mathlib.Core.Path.{◌≡◌}
use mathlib.Core.List.{List}
use Prim.Native.Nat.{ℕ, ◌+◌, ◌≤◌}
use lib.IntN.{ℤ}
use lib.ListN.{length}
use Rattle.syntax.specs.Grammar.{Fn}
use Rattle.windows.specs.Events.{events_from}
use Rattle.windows.specs.Windows.{Sought, answers_from, answers, ahead}
use Rattle.windows.proofs.count_windows.Given as goal

abbrev pub invariant-loop-place : goal.invariant-loop-place
invariant-loop-place l =
    (k : ℕ) × Sought l.w l.times k l.place × (l.rows ≤ k) × (l.rows ≤ l.room) × ((f : Fn) (cs : List ℕ) (ps : List ℤ) → length (answers l.w f (events_from l.times cs ps 0)) ≡ l.rows + length (answers_from l.w f (events_from l.times cs ps 0) k))

abbrev pub decreases-loop-place : goal.decreases-loop-place
decreases-loop-place l = ahead l.w l.place
