-- `equates`: no condition passed is the equality.
use mathlib.Core.Path.{◌≡◌}
use Rattle.lists.specs.Lists.{some?}
use Rattle.model.specs.Routes.{is_equality}
use Rattle.nodes.specs.Nodes.{conditions_of}
use Rattle.query.specs.Forms.{coded_col}
use Rattle.comparisons.proofs.Equated.{equated_before}
use Rattle.comparisons.proofs.equates.Given as goal

abbrev pub invariant-loop-j : goal.invariant-loop-j
invariant-loop-j l = some? (is_equality (coded_col l.a) (coded_col l.b)) (conditions_of l.words l.n) ≡ equated_before l.words l.n l.a l.b l.j

abbrev pub decreases-loop-j : goal.decreases-loop-j
decreases-loop-j l = l.j
