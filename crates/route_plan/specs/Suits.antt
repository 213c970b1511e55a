-- Plans that can be evaluated.
use Rattle.std.specs.Prelude.{◌≡◌, ◌≤◌, T, eqb}
use Rattle.lists.specs.Lists.{every, distinct}
use Rattle.syntax.specs.Limits.{max_forms, top}
use Rattle.model.specs.Checks.{fitting}
use Rattle.ledger.specs.Records.{Memory}
use Rattle.orders.specs.Orders.{codes_in}
use Rattle.plan.specs.declared.Plan.{Plan}
use Rattle.pairs.specs.Given.{Stands, column_there}

-- a plan that stands as a checked query's does
pub record Suits (m : Memory) (p : Plan) : Type 0 where
  pub stands : Stands m p
  pub there : p.number ≡ 0 → T (every (column_there m.names p) (codes_in p.order))
  pub once : p.number ≡ 0 → T (distinct eqb (codes_in p.order))
  pub column : (p.number ≡ 0 → ⊥) → T (column_there m.names p p.column)
  pub span : (p.number ≡ 0 → ⊥) → T (fitting p.size p.offset)
  pub near : (p.number ≡ 0 → ⊥) → p.offset ≤ top
  pub few : p.count ≤ max_forms
  pub after : (p.number ≡ 0 → ⊥) → p.uppers ≤ p.count
