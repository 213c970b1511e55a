use mathlib.Core.Path.{◌≡◌}
use Prim.Native.Nat.{suc}
use lib.ListN.{length}
use lib.Seq.{sets}
use Rattle.query.specs.Tables.{query_forms}
use Rattle.ask.specs.Cells.{Keeps}
use Rattle.ask.proofs.Loops.{first_cells}
use Rattle.ask.proofs.put_all.Given as goal

abbrev pub invariant-loop-i : goal.invariant-loop-i
invariant-loop-i l =
    (l.cells ≡ sets l.initial.cells 1 (first_cells (record { memory = record { ledger = l.l; names = l.names; times = l.times; values = l.values }; own = l.words; granted = l.granted; profile = l.profile; forms = query_forms l.q }) l.o l.task.needs l.i))
    × (l.at ≡ suc (length (first_cells (record { memory = record { ledger = l.l; names = l.names; times = l.times; values = l.values }; own = l.words; granted = l.granted; profile = l.profile; forms = query_forms l.q }) l.o l.task.needs l.i)))
    × Keeps (record { memory = record { ledger = l.l; names = l.names; times = l.times; values = l.values }; own = l.words; granted = l.granted; profile = l.profile; forms = query_forms l.q }) l.o l.task.needs l.task.known l.kept
    × (length l.kept ≡ length l.initial.kept)
