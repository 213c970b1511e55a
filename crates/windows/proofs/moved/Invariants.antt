use mathlib.Core.Path.{◌≡◌}
use Prim.Native.Nat.{◌<◌}
use Rattle.syntax.specs.Grammar.{numbered_fn}
use Rattle.windows.specs.Events.{span_tally}
use Rattle.windows.specs.Windows.{Before}
use Rattle.windows.proofs.moved.Given as goal

abbrev pub invariant-loop-j : goal.invariant-loop-j
invariant-loop-j l = (l.i < l.j) × Before l.times l.j l.end × (l.t ≡ span_tally (numbered_fn l.f) l.times l.counts l.parts l.i l.j)
