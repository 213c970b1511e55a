use native.Mathlib.Omega.{arith}
use Rattle.time_masks.proofs.Clocks.{capped_is}
use Rattle.time_masks.proofs.capped.Goals as goal

pub returns : goal.returns
returns c = capped_is _ (omega arith)
