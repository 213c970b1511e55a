-- `columns_mask`: the bits of the streams passed.
use native.Mathlib.Omega.{arith}
use Rattle.grant.proofs.StreamMasks.{mask_start, mask_ends}
use Rattle.grant.proofs.columns_mask.Goals as goal

pub loop-s-init : goal.loop-s-init
loop-s-init c = mask_start _ _ _ (omega arith) c.min-n.ensures

pub loop-s-preserved : goal.loop-s-preserved
loop-s-preserved c = search mask_ends

pub returns : goal.returns
returns c = search mask_ends
