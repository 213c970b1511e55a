use Rattle.std.proofs.Common.{◌≡◌, ℕ, ◌-◌, ◌≤◌, List, length, take}
use Rattle.lines.specs.Runs.{point, Advances, Known}
use Rattle.lines.proofs.do_block.Given as goal

abbrev pub invariant-loop-r : goal.invariant-loop-r
invariant-loop-r g l =
    (l.r.at ≤ length l.block) × (l.r.reading ≡ l.initial.r.reading)
    × ((w : List ℕ) → Known w l.initial.r l.initial.line → Advances w (take l.r.at l.block) l.initial.r l.r (point l.initial.r.state l.initial.names l.initial.times l.initial.values l.initial.words l.initial.cells l.initial.bytes) (point l.r.state l.names l.times l.values l.words l.cells l.bytes) l.initial.line l.line l.initial.out l.out)

abbrev pub decreases-loop-r : goal.decreases-loop-r
decreases-loop-r g l = length l.block - l.r.at
