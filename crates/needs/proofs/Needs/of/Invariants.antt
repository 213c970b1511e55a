-- `of`: what the forms passed ask.
use mathlib.Core.Path.{◌≡◌}
use lib.ListN.{drop}
use Rattle.query.specs.Tables.{query_forms}
use Rattle.needs.specs.Asking.{needs_from}
use Rattle.needs.proofs.Needs.of.Given as goal

abbrev pub invariant-loop-i : goal.invariant-loop-i
invariant-loop-i l = l.s ≡ needs_from l.names l.words (drop l.i (query_forms l.q))
