-- `sides`: the forms passed are cut, and their streams seen.
use mathlib.Core.Path.{◌≡◌}
use lib.ListN.{length, drop}
use Rattle.query.specs.Tables.{query_forms, held, rewritten_from, rewritten_table}
use Rattle.rewrite.specs.Rewrites.{cut_forms, side_forms}
use Rattle.rewrite.proofs.sides.Given as goal

abbrev pub invariant-loop-f : goal.invariant-loop-f
invariant-loop-f l = (length l.table ≡ length l.initial.table) × (rewritten_table l.initial.table (side_forms l.names l.initial.g l.second (query_forms l.fn.q)) ≡ rewritten_from (held l.table l.r) (cut_forms l.names l.mask l.g l.second (drop l.f-index l.f-items)))
