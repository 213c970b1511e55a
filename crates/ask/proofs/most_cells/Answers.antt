use native.Mathlib.Omega.{arith}
use Rattle.ask.proofs.Most.{width_few, few_cells, most_joined, most_plain, most_late, most_windows}
use Rattle.ask.proofs.most_cells.Goals as goal

pub returns-then-n-ne-NONE : goal.returns-then-n-ne-NONE
returns-then-n-ne-NONE c = most_joined _ _ _ c.if-n-ne-NONE.true

pub overflow_add-result : goal.overflow_add-result
overflow_add-result c = let a = width_few _ _ c.width.ensures in record { fits = omega arith }

pub overflow_mul-result : goal.overflow_mul-result
overflow_mul-result c = let a = few_cells _ _ _ c.count.ensures c.width.ensures in record { fits = omega arith }

pub overflow_cast-result-then-n-eq0 : goal.overflow_cast-result-then-n-eq0
overflow_cast-result-then-n-eq0 c = let a = few_cells _ _ _ c.count.ensures c.width.ensures in record { fits = omega arith }

pub returns-then-n-eq0 : goal.returns-then-n-eq0
returns-then-n-eq0 c = most_plain _ _ _ c.if-n-ne-NONE.false c.if-n-eq0.true c.count.ensures c.width.ensures

pub nonzero_div-k : goal.nonzero_div-k
nonzero_div-k c = let a = c.requires c.if-n-eq0.false in omega arith

pub returns-then-k : goal.returns-then-k
returns-then-k c = most_late _ _ _ c.if-n-ne-NONE.false c.if-n-eq0.false c.if-k.true

pub returns : goal.returns
returns c = most_windows _ _ _ c.if-n-ne-NONE.false c.if-n-eq0.false c.if-k.false
