-- `side_columns`: the forms passed are picks.
use mathlib.Core.Path.{◌≡◌}
use lib.ListN.{drop}
use Rattle.rewrite.specs.Rewrites.{side_order}
use Rattle.rewrite.proofs.side_columns.Given as goal

abbrev pub invariant-loop-f : goal.invariant-loop-f
invariant-loop-f l = side_order l.names l.forms ≡ side_order l.names (drop l.f-index l.forms)
