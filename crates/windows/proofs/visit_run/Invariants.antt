use mathlib.Core.Path.{◌≡◌}
use mathlib.Core.List.{List}
use Prim.Native.Nat.{ℕ, ◌+◌, ◌≤◌}
use lib.IntN.{ℤ}
use lib.ListN.{length}
use Rattle.syntax.specs.Grammar.{numbered_fn}
use Rattle.windows.specs.Windows.{Kept, run_rows}
use Rattle.windows.proofs.visit_run.Given as goal

-- what is taken of the windows that are left is taken of all
abbrev pub invariant-loop-window : goal.invariant-loop-window
invariant-loop-window g l =
    (l.r ≤ l.window) × (length l.cells ≡ length l.initial.cells)
    × ((c : List ℤ) (n : ℕ) → g.S.Sink.taken l.sink (run_rows l.w (numbered_fn l.w.number) l.times l.counts l.parts l.run.event l.window (l.run.last + 1)) l.cells l.r c n → g.S.Sink.taken l.sink (run_rows l.w (numbered_fn l.w.number) l.times l.counts l.parts l.run.event l.run.first (l.run.last + 1)) l.initial.cells l.initial.r c n)
    × Kept l.w (numbered_fn l.w.number) l.times l.counts l.parts l.window l.span
