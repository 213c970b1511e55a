-- `sum`: the forms passed are as they were.
use mathlib.Core.Path.{◌≡◌}
use lib.ListN.{length, drop}
use Rattle.query.specs.Tables.{query_forms, held, rewritten_from, rewritten_table}
use Rattle.rewrite.specs.Rewrites.{sum_forms}
use Rattle.rewrite.proofs.sum.Given as goal

abbrev pub invariant-loop-i : goal.invariant-loop-i
invariant-loop-i l = (length l.table ≡ length l.initial.table) × (rewritten_table l.initial.table (sum_forms l.names l.g (query_forms l.fn.q)) ≡ rewritten_from (held l.table l.r) (sum_forms l.names l.g (drop l.i l.all)))
