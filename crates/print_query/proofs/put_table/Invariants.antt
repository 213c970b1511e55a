-- `put_table`: what is left of the query, by the forms from place i on and by what stands open.
use mathlib.Core.Path.{◌≡◌}
use Prim.Native.Nat.{◌+◌, ◌*◌, ◌-◌}
use lib.ListN.{length}
use Rattle.schema.specs.Schemas.{schema_of}
use Rattle.query.specs.Tables.{forms_in}
use Rattle.print_query.specs.Texts.{words_lent}
use Rattle.print_query.proofs.Tables.{Going}
use Rattle.print_query.proofs.put_table.Given as goal

abbrev pub invariant-loop-marks : goal.invariant-loop-marks
invariant-loop-marks l = Going (schema_of l.names) (words_lent l.words l.granted l.profile) (forms_in l.table l.n) l.initial.out 0 l.i l.marks l.out l.q × (length l.out ≡ length l.initial.out)

abbrev pub decreases-loop-marks : goal.decreases-loop-marks
decreases-loop-marks l = (16 - l.i) * 131072 + l.marks
