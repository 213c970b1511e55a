use mathlib.Core.Path.{subst}
use Prim.Native.Nat.{ℕ}
use Rattle.route_cells.specs.Routes.{Bounds}
use native.Mathlib.Omega.{arith}
use Rattle.route_cells.proofs.Routes.{bound_made, bound_small}
use Rattle.route_cells.proofs.bound.Goals as goal

pub overflow_mul-result : goal.overflow_mul-result
overflow_mul-result c = let h = bound_small c.most_pairs-n.ensures.low (c.requires.0 c.if-p-eq0.true) in record { fits = omega arith }

pub overflow_add-result : goal.overflow_add-result
overflow_add-result c = let h = bound_small c.most_pairs-n.ensures.low (c.requires.0 c.if-p-eq0.true) in let a = c.requires.1 in let b = c.requires.2 in record { fits = omega arith }

pub returns-then-p-eq0 : goal.returns-then-p-eq0
returns-then-p-eq0 c =
    let a = c.args in
    λ r e. subst (λ (r : ℕ). Bounds a.l a.names.now a.values.now a.p a.lefts a.rights a.aim r) (cc) (bound_made _ _ _ _ _ _ _ c.if-p.true c.if-p-eq0.true c.most_pairs-n.ensures)
