-- `put_columns`: after i columns the rest of the order is still to be written.
use mathlib.Core.Path.{◌≡◌}
use lib.ListN.{length}
use Rattle.schema.specs.Schemas.{schema_of}
use Rattle.print.proofs.Names.{Rest}
use Rattle.print.proofs.put_columns.Given as goal

abbrev pub invariant-loop-i : goal.invariant-loop-i
invariant-loop-i l = Rest (schema_of l.names) l.order l.i l.initial.out l.p l.out l.q × (length l.out ≡ length l.initial.out)
