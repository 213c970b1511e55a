use mathlib.Core.Path.{◌≡◌}
use Rattle.syntax.specs.Grammar.{numbered_fn}
use Rattle.windows.specs.Events.{span_tally}
use Rattle.windows.proofs.trimmed.Given as goal

abbrev pub invariant-loop-k : goal.invariant-loop-k
invariant-loop-k l = l.t ≡ span_tally (numbered_fn l.f) l.times l.counts l.parts l.k l.s.to
