use mathlib.Core.Path.{◌≡◌}
use Prim.Native.Nat.{ℕ, suc, ◌+◌, ◌*◌, ◌-◌, ◌≤◌, ◌<◌}
use lib.ListN.{length}
use Rattle.windows.specs.Windows.{Before, Idle}
use Rattle.windows.proofs.next.Given as goal

abbrev pub invariant-loop-start : goal.invariant-loop-start
invariant-loop-start l =
    (l.start ≡ l.window * l.w.offset) × (l.start ≤ l.w.clock + l.w.offset) × (l.k ≤ l.window) × (l.event ≤ length l.times) × Before l.times l.event l.start × ((j : ℕ) → l.k ≤ j → j < l.window → Idle l.w l.times j)

abbrev pub decreases-loop-start : goal.decreases-loop-start
decreases-loop-start l = suc (l.w.clock + l.w.offset) - l.start
