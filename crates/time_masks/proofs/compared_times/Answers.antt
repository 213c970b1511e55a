use mathlib.Core.Path.{refl}
use native.Mathlib.Omega.{arith}
use Rattle.time_masks.proofs.Weights.{weight_none, rows_cut}
use Rattle.time_masks.proofs.Clocks.{row_fits, row_more}
use Rattle.time_masks.proofs.compared_times.Goals as goal

pub loop-i-init : goal.loop-i-init
loop-i-init g c = (weight_none _ _, weight_none _ _, weight_none _ _, weight_none _ _)

pub overflow_add-a : goal.overflow_add-a
overflow_add-a g c = let s = c.args in let l = c.loop-i in row_fits g.T.Test.op s.low.v s.times.now s.from s.values.now s.p l.i (omega arith) 0 _ _ (omega arith) (omega arith) (omega arith) l.invariant.0 c.weight_at-a.ensures

pub overflow_add-b : goal.overflow_add-b
overflow_add-b g c = let s = c.args in let l = c.loop-i in row_fits g.T.Test.op s.low.v s.times.now s.from s.values.now s.p l.i (omega arith) 32 _ _ (omega arith) (omega arith) (omega arith) l.invariant.1 c.weight_at-b.ensures

pub overflow_add-c : goal.overflow_add-c
overflow_add-c g c = let s = c.args in let l = c.loop-i in row_fits g.T.Test.op s.low.v s.times.now s.from s.values.now s.p l.i (omega arith) 64 _ _ (omega arith) (omega arith) (omega arith) l.invariant.2 c.weight_at-c.ensures

pub overflow_add-d : goal.overflow_add-d
overflow_add-d g c = let s = c.args in let l = c.loop-i in row_fits g.T.Test.op s.low.v s.times.now s.from s.values.now s.p l.i (omega arith) 96 _ _ (omega arith) (omega arith) (omega arith) l.invariant.3 c.weight_at-d.ensures

pub loop-i-preserved : goal.loop-i-preserved
loop-i-preserved g c =
    let s = c.args in
    let l = c.loop-i in (
      row_more g.T.Test.op s.low.v s.times.now s.from s.values.now s.p l.i (omega arith) 0 _ _ (omega arith) (omega arith) (omega arith) l.invariant.0 c.weight_at-a.ensures,
      row_more g.T.Test.op s.low.v s.times.now s.from s.values.now s.p l.i (omega arith) 32 _ _ (omega arith) (omega arith) (omega arith) l.invariant.1 c.weight_at-b.ensures,
      row_more g.T.Test.op s.low.v s.times.now s.from s.values.now s.p l.i (omega arith) 64 _ _ (omega arith) (omega arith) (omega arith) l.invariant.2 c.weight_at-c.ensures,
      row_more g.T.Test.op s.low.v s.times.now s.from s.values.now s.p l.i (omega arith) 96 _ _ (omega arith) (omega arith) (omega arith) l.invariant.3 c.weight_at-d.ensures,
    )

pub returns : goal.returns
returns g c = let l = c.loop-i in rows_cut _ 0 _ (omega arith) l.invariant.0 l.invariant.1 l.invariant.2 l.invariant.3 refl c.first.ensures c.both.ensures
