-- `placed`: what is passed, joined to what is still to be passed.
use mathlib.Core.Path.{◌≡◌}
use Rattle.query_line.specs.Placing.{placed_from}
use Rattle.query_line.specs.Asking.{placing_of}
use Rattle.query_line.proofs.placed.Given as goal

abbrev pub invariant-loop-n : goal.invariant-loop-n
invariant-loop-n l = (placing_of l.names l.r ≡ placed_from l.names l.r.forms l.r.lefts l.r.rights l.n l.p)
