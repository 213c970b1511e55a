use native.Mathlib.Omega.{arith}
use Rattle.windows.specs.Windows.{last_with}
use Rattle.windows.proofs.last_with.Goals as goal

pub returns-then-begun-ended : goal.returns-then-begun-ended
unfolding last_with
returns-then-begun-ended c = omega arith

pub returns : goal.returns
unfolding last_with
returns c = omega arith
