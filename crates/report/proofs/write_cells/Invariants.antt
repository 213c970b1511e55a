-- `write_cells`: after i items the rest is still to be written.
use mathlib.Core.Path.{◌≡◌}
use Prim.Native.Nat.{◌*◌, ◌≤◌}
use lib.ListN.{length, drop}
use Rattle.report.specs.declared.Due.TheVariants.{Routes}
use Rattle.report.specs.Outcomes.{put_cells}
use Rattle.report.proofs.Writing.{Left}
use Rattle.report.proofs.write_cells.Given as goal

abbrev pub invariant-loop-z : goal.invariant-loop-z
invariant-loop-z l = Left (put_cells Routes l.zs) (put_cells l.d (drop l.z-index l.zs)) l.initial.out l.out l.p × (length l.out ≡ length l.initial.out) × (l.p ≤ 28 * l.z-index)
