-- `put_picks`: the picks passed are added.
use mathlib.Core.Path.{◌≡◌}
use lib.ListN.{length, drop}
use Rattle.query.specs.Tables.{held, rewritten_from}
use Rattle.rewrite.specs.Rewrites.{side_picks}
use Rattle.rewrite.proofs.put_picks.Given as goal

abbrev pub invariant-loop-f : goal.invariant-loop-f
invariant-loop-f l = (length l.table ≡ length l.initial.table) × (rewritten_from (held l.initial.table l.r) (side_picks l.forms) ≡ rewritten_from (held l.table l.x) (side_picks (drop l.f-index l.forms)))
