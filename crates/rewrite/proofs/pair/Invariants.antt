-- `pair`: the forms passed are cut.
use mathlib.Core.Path.{◌≡◌}
use lib.ListN.{length, drop}
use Rattle.query.specs.Tables.{query_forms, held, rewritten_from, rewritten_table}
use Rattle.rewrite.specs.Rewrites.{pair_forms}
use Rattle.rewrite.proofs.pair.Given as goal

abbrev pub invariant-loop-i : goal.invariant-loop-i
invariant-loop-i l = (length l.table ≡ length l.initial.table) × (rewritten_table l.initial.table (pair_forms l.names l.g (query_forms l.fn.q)) ≡ rewritten_from (held l.table l.r) (pair_forms l.names l.g (drop l.i l.all)))
