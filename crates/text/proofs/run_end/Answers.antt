-- `run_end`: from each place of the run on, the run ends where it ends.
use mathlib.Core.Path.{refl}
use Rattle.text.proofs.Runs.{run_ends}
use Rattle.text.proofs.run_end.Goals as goal

pub loop-i-init : goal.loop-i-init
loop-i-init c = refl

pub returns-then-not-in_class : goal.returns-then-not-in_class
returns-then-not-in_class c = search run_ends

pub loop-i-preserved : goal.loop-i-preserved
loop-i-preserved c = search run_ends

pub returns : goal.returns
returns c = search run_ends
