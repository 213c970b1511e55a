use mathlib.Core.Path.{◌≡◌}
use Prim.Native.Nat.{suc, ◌<◌}
use lib.Dec.{leb}
use lib.ListN.{length}
use Rattle.query.specs.Tables.{query_forms}
use Rattle.pairs.specs.Given.{Counted}
use Rattle.ask.specs.Cells.{Keeps}
use Rattle.ask.proofs.Loops.{first_cells}
use Rattle.ask.proofs.fits.Given as goal

abbrev pub invariant-loop-i : goal.invariant-loop-i
invariant-loop-i l =
    (l.cells ≡ l.initial.cells)
    × (l.i < l.task.routes.count → Counted (suc (length (first_cells (record { memory = record { ledger = l.l; names = l.names; times = l.times; values = l.values }; own = l.words; granted = l.granted; profile = l.profile; forms = query_forms l.q }) l.o l.task.needs l.i))) l.task.room l.at)
    × (leb l.at l.task.room ≡ leb (suc (length (first_cells (record { memory = record { ledger = l.l; names = l.names; times = l.times; values = l.values }; own = l.words; granted = l.granted; profile = l.profile; forms = query_forms l.q }) l.o l.task.needs l.i))) l.task.room)
    × Keeps (record { memory = record { ledger = l.l; names = l.names; times = l.times; values = l.values }; own = l.words; granted = l.granted; profile = l.profile; forms = query_forms l.q }) l.o l.task.needs l.i l.kept
    × (length l.kept ≡ length l.initial.kept)
