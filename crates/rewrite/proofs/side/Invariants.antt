-- `side`: the forms passed are no streams.
use mathlib.Core.Path.{◌≡◌}
use lib.ListN.{drop}
use Rattle.rewrite.specs.Rewrites.{side_stream, side_rest}
use Rattle.rewrite.proofs.side.Given as goal

abbrev pub invariant-loop-i : goal.invariant-loop-i
invariant-loop-i l = (side_stream l.forms ≡ side_stream (drop l.i l.forms)) × (side_rest l.forms ≡ side_rest (drop l.i l.forms))
