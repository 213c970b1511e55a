-- `by_head`: the rows of each head, or all but those of another.
use native.Mathlib.Omega.{arith}
use Rattle.selection.proofs.Comparing.{compared_eq, compared_ne, compared_lt, compared_le, compared_gt, compared_ge}
use Rattle.selection.proofs.by_head.Goals as goal

pub returns-in-1 : goal.returns-in-1
returns-in-1 g c = λ f h s b a. compared_eq _ f h 0 _ c.in-1.is (s _ c.same.ensures)

pub returns-in-2 : goal.returns-in-2
returns-in-2 g c = λ f h s b a. compared_ne _ f h 0 _ c.first.ensures c.in-2.is (s _ c.same-in-2.ensures) c.flip.ensures

pub returns-in-3 : goal.returns-in-3
returns-in-3 g c = λ f h s b a. compared_lt _ f h 0 _ c.in-3.is (b _ c.below.ensures)

pub returns-in-4 : goal.returns-in-4
returns-in-4 g c = λ f h s b a. compared_le _ f h 0 _ c.first-in-4.ensures c.in-4.is (a _ c.above.ensures) c.flip-in-4.ensures

pub returns-in-5 : goal.returns-in-5
returns-in-5 g c = λ f h s b a. compared_gt _ f h 0 _ c.in-5.is (a _ c.above-in-5.ensures)

pub returns : goal.returns
returns g c = λ f h s b a. compared_ge _ f h 0 _ c.first-in_default.ensures (λ e. omega arith) (λ e. omega arith) (λ e. omega arith) (λ e. omega arith) (λ e. omega arith) (b _ c.below-in_default.ensures) c.flip-in_default.ensures
