-- `laid`: the plan of the forms from a place on.
use mathlib.Core.Path.{◌≡◌}
use lib.ListN.{drop}
use Rattle.query.specs.Tables.{forms_in}
use Rattle.plan.specs.Plans.{plan_in}
use Rattle.plan.proofs.laid.Given as goal

abbrev pub invariant-loop-i : goal.invariant-loop-i
invariant-loop-i l = l.p ≡ plan_in l.names (drop l.i (forms_in l.table l.n))
