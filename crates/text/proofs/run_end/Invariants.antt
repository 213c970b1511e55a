-- `run_end`: from each place of the run on, the run ends where it ends.
use mathlib.Core.Path.{◌≡◌}
use Rattle.text.specs.Words.{run_end}
use Rattle.text.proofs.run_end.Given as goal

abbrev pub invariant-loop-i : goal.invariant-loop-i
invariant-loop-i l = run_end l.c l.s l.at ≡ run_end l.c l.s l.i
