use mathlib.Core.Path.{◌≡◌}
use mathlib.Core.List.{List}
use Prim.Native.Nat.{ℕ, ◌≤◌}
use lib.IntN.{ℤ}
use lib.ListN.{length}
use Rattle.syntax.specs.Grammar.{numbered_fn}
use Rattle.windows.specs.Events.{events_from}
use Rattle.windows.specs.Windows.{Sought, Kept, answers_from, answers, ahead}
use Rattle.windows.proofs.visit.Given as goal

-- what is taken of the windows that are left is taken of all
abbrev pub invariant-loop-place : goal.invariant-loop-place
invariant-loop-place g l =
    (k : ℕ) × Sought l.w l.times k l.place × (l.r.rows ≤ k) × (length l.cells ≡ length l.initial.cells)
    × ((c : List ℤ) (n : ℕ) → g.S.Sink.taken l.sink (answers_from l.w (numbered_fn l.w.number) (events_from l.times l.counts l.parts 0) k) l.cells l.r.rows c n → g.S.Sink.taken l.sink (answers l.w (numbered_fn l.w.number) (events_from l.times l.counts l.parts 0)) l.initial.cells 0 c n)
    × Kept l.w (numbered_fn l.w.number) l.times l.counts l.parts k l.r.span

abbrev pub decreases-loop-place : goal.decreases-loop-place
decreases-loop-place g l = ahead l.w l.place
