use native.Mathlib.Omega.{arith}
use Rattle.grant.proofs.StreamMasks.{narrow, some_lowest, stream_past, stream_moved}
use Rattle.grant.proofs.stream_columns.Goals as goal

ruleset ends = (stream_past, stream_moved, some_lowest)

pub returns-then-s-ge-MOST : goal.returns-then-s-ge-MOST
returns-then-s-ge-MOST c = search ends

pub overflow_cast-n : goal.overflow_cast-n
overflow_cast-n c = let h = narrow _ _ c.width-n.ensures in omega arith

pub overflow_shl-result : goal.overflow_shl-result
overflow_shl-result c = let h = narrow _ _ c.width-n.ensures in omega arith

pub overflow_sub-result : goal.overflow_sub-result
overflow_sub-result c = search ends

pub returns : goal.returns
returns c = search ends
