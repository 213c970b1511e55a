use native.Mathlib.Omega.{arith}
use mathlib.Core.Path.{◌≡◌}
use Prim.Native.Nat.{ℕ, ◌+◌}
use lib.Count.{count_trailing_zeros}
use Rattle.column_masks.proofs.Keyed.{holding_none, lowest_low, lowest_some, lowest_part, seen_within, seen_more}
use Rattle.column_masks.proofs.held_word.Goals as goal

sum_of : {a b x : ℕ} → 0 ≡ b → a + b ≡ x → a ≡ x
sum_of e f = omega arith

pub loop-rest-init : goal.loop-rest-init
loop-rest-init c = (omega arith, omega arith)

pub overflow_shl-b : goal.overflow_shl-b
overflow_shl-b c = lowest_low {w = c.loop-rest.rest} (omega arith) c.loop-rest-test.true

pub overflow_mul-i : goal.overflow_mul-i
overflow_mul-i c = let k = lowest_low {w = c.loop-rest.rest} (omega arith) c.loop-rest-test.true in record { fits = omega arith }

pub overflow_add-p : goal.overflow_add-p
overflow_add-p c = let k = lowest_low {w = c.loop-rest.rest} (omega arith) c.loop-rest-test.true in let n = c.requires.near (count_trailing_zeros 32 c.loop-rest.rest) (omega arith) (omega arith) in record { fits = omega arith }

pub with_value-m-requires : goal.with_value-m-requires
with_value-m-requires c = let k = lowest_low {w = c.loop-rest.rest} (omega arith) c.loop-rest-test.true in let l = lowest_part {w = c.loop-rest.rest} (omega arith) c.loop-rest-test.true in (c.requires.inside (count_trailing_zeros 32 c.loop-rest.rest) (omega arith) (omega arith), omega arith)

pub overflow_sub-rest : goal.overflow_sub-rest
overflow_sub-rest c = lowest_part {w = c.loop-rest.rest} (omega arith) c.loop-rest-test.true

pub loop-rest-smaller : goal.loop-rest-smaller
loop-rest-smaller c = let l = lowest_some {w = c.loop-rest.rest} (omega arith) c.loop-rest-test.true in omega arith

pub loop-rest-preserved : goal.loop-rest-preserved
loop-rest-preserved c = let l = c.loop-rest in let a = c.args in (seen_within a.values.now a.p a.v.v l.rest l.m (omega arith) c.loop-rest-test.true c.with_value-m.ensures _ l.invariant.0, seen_more _ _ _ l.rest l.m (omega arith) c.loop-rest-test.true c.with_value-m.ensures l.invariant.1)

pub returns : goal.returns
returns c = let l = c.loop-rest in let z = holding_none _ _ _ l.rest (omega arith) in sum_of z l.invariant.1
