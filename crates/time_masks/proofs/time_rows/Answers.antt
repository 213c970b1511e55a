use mathlib.Core.Path.{refl}
use Prim.Native.Nat.{◌<◌}
use native.Mathlib.Omega.{arith}
use Rattle.time_masks.proofs.Spans.{time_read}
use Rattle.time_masks.proofs.Weights.{weight_none, weight_fits, weight_more, rows_cut}
use Rattle.time_masks.proofs.time_rows.Goals as goal

pub loop-i-init : goal.loop-i-init
loop-i-init c = (weight_none _ _, weight_none _ _, weight_none _ _, weight_none _ _)

pub overflow_add-a : goal.overflow_add-a
overflow_add-a c = let l = c.loop-i in weight_fits _ _ l.i (let e = c.part-k.ensures in omega arith) l.invariant.0 (time_read _ _ _ _ _ refl c.time_weight-a.ensures)

pub overflow_add-b : goal.overflow_add-b
overflow_add-b c = let l = c.loop-i in weight_fits _ _ l.i (let e = c.part-k.ensures in omega arith) l.invariant.1 (time_read _ _ _ _ _ refl c.time_weight-b.ensures)

pub overflow_add-c : goal.overflow_add-c
overflow_add-c c = let l = c.loop-i in weight_fits _ _ l.i (let e = c.part-k.ensures in omega arith) l.invariant.2 (time_read _ _ _ _ _ refl c.time_weight-c.ensures)

pub overflow_add-d : goal.overflow_add-d
overflow_add-d c = let l = c.loop-i in weight_fits _ _ l.i (let e = c.part-k.ensures in omega arith) l.invariant.3 (time_read _ _ _ _ _ refl c.time_weight-d.ensures)

pub loop-i-preserved : goal.loop-i-preserved
loop-i-preserved c = let l = c.loop-i in let h : l.i < 32 = (let e = c.part-k.ensures in omega arith) in (weight_more _ _ l.i h l.invariant.0 (time_read _ _ _ _ _ refl c.time_weight-a.ensures), weight_more _ _ l.i h l.invariant.1 (time_read _ _ _ _ _ refl c.time_weight-b.ensures), weight_more _ _ l.i h l.invariant.2 (time_read _ _ _ _ _ refl c.time_weight-c.ensures), weight_more _ _ l.i h l.invariant.3 (time_read _ _ _ _ _ refl c.time_weight-d.ensures))

pub returns : goal.returns
returns c = let l = c.loop-i in rows_cut _ _ _ (let e = c.part-k.ensures in omega arith) l.invariant.0 l.invariant.1 l.invariant.2 l.invariant.3 refl c.first.ensures c.both.ensures
