use Prim.Native.Nat.{◌+◌, ◌/◌, ◌^◌}
use native.Mathlib.Omega.{arith}
use lib.Count.{count_trailing_zeros}
use Rattle.rows.specs.Masks.{Next}
use Rattle.rows.proofs.Words.{next_ends, next_some, next_is}
use borrow.Author.Rules.{rules}
use Rattle.rows.proofs.next_bit.Goals as goal
use Rattle.rows.proofs.next_bit.Goals.{Else-m-eq0}

found : (c : Else-m-eq0) → Next c.args.w c.args.i (c.args.i + count_trailing_zeros 32 (c.args.w / 2 ^ c.args.i))
found c = next_some c.args.w c.args.i (omega arith) (omega arith) c.if-m-eq0.false

pub returns-then-i-ge32 : goal.returns-then-i-ge32
returns-then-i-ge32 c = search (next_ends, rules)

pub returns-then-m-eq0 : goal.returns-then-m-eq0
returns-then-m-eq0 c = search (next_ends, rules)

pub overflow_add-result : goal.overflow_add-result
overflow_add-result c = let n = (found (goal.at.overflow_add-result c).Else-m-eq0).within in record { fits = omega arith }

pub returns : goal.returns
returns c = next_is (found (goal.at.returns c).Else-m-eq0)
