use native.Mathlib.Omega.{arith}
use Rattle.rows.proofs.Bits.{two_fit, four_fit}
use Rattle.rows.proofs.Rows.count.Goals as goal

pub overflow_add-result : goal.overflow_add-result
overflow_add-result c = let m = c.args.self in two_fit m.a m.b (omega arith) (omega arith)

pub overflow_add-result-2 : goal.overflow_add-result-2
overflow_add-result-2 c = let m = c.args.self in two_fit m.c m.d (omega arith) (omega arith)

pub overflow_add-result-3 : goal.overflow_add-result-3
overflow_add-result-3 c = let m = c.args.self in four_fit m.a m.b m.c m.d (omega arith) (omega arith) (omega arith) (omega arith)
