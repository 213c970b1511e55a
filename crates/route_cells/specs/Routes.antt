-- The cells of one route: its grants' numbers, its width and how many rows it has, then the rows.
use Rattle.std.specs.Prelude.{◌≡◌, List, [], ◌∷◌, ◌++◌, Bool, true, false, ◌&&◌, not, cond, ℕ, suc, ◌+◌, ◌*◌, ◌≤◌, ℤ, pos, eqb, leb, length}
use Rattle.std.proofs.lemmas.List.Edits.{sets}
use Rattle.lists.specs.Lists.{gather}
use Rattle.model.specs.Queries.{Row}
use Rattle.model.specs.Answers.{row_cells}
use Rattle.openings.specs.Made.{sides_kind}
use Rattle.ledger.specs.Records.{Memory}
use Rattle.ledger.specs.declared.Ledger.{Ledger}
use Rattle.query.specs.declared.Form.{Form}
use Rattle.plan.specs.declared.Plan.{Plan}
use Rattle.rows.specs.declared.Rows.{Rows}
use Rattle.sides.specs.Sides.{words_of, left_mask}
use Rattle.pairs.specs.Given.{Masked, plan_rows, Counted}
use Rattle.route_plan.specs.Ways.{way_plan}
use Rattle.route_plan.specs.declared.Way.{Way}
use Rattle.route_plan.specs.Suits.{Suits}
use Rattle.route_rows.specs.declared.Aim.{Aim}
use Rattle.route_rows.specs.Rows.{room_end, plan_width}

-- what routes are evaluated over: the record, the words of the query and of the grants, the profile, and the query's forms
pub record Setting : Type 0 where
  pub memory : Memory
  pub own : List ℕ
  pub granted : List ℕ
  pub profile : List ℕ
  pub forms : List Form

abbrev pub plan_of : Setting → Way → Plan
plan_of s y = way_plan s.memory.names y s.forms

-- the rows of the only or the left stream that the plan asks for
abbrev pub left_of : Setting → Way → Rows
left_of s y = left_mask s.memory (words_of s.own s.granted s.profile) (plan_of s y)

unfoldable pub way_rows : Setting → Way → List Row
way_rows s y = plan_rows s.memory s.own s.granted s.profile (plan_of s y)

-- grants are numbered from 1; the second is 0 where there is only one
unfoldable pub second_number : Way → ℕ
second_number y = cond (eqb y.kind sides_kind && not y.lone) (suc y.right.place) 0

unfoldable pub way_header : Way → ℕ → ℕ → List ℤ
way_header y width rows = pos (suc y.left.place) ∷ (pos (second_number y) ∷ (pos width ∷ (pos rows ∷ [])))

unfoldable pub way_cells : Setting → Way → List ℤ
way_cells s y = way_header y (plan_width (plan_of s y)) (length (way_rows s y)) ++ gather row_cells (way_rows s y)

-- a route may be evaluated from a place on, where so many cells are lent; where it is to be written, there is room for it
pub record Enterable (s : Setting) (y : Way) (write : Bool) (at room size : ℕ) : Type 0 where
  pub suits : Suits s.memory (plan_of s y)
  pub from : at ≤ room
  pub near : room ≤ room_end
  pub lent : room ≤ size
  pub fits : write ≡ true → at + length (way_cells s y) ≤ room

-- the cells of a route from a place on: counted up to a room, or written; of the last that is counted, whether they have room
pub record Turns (s : Setting) (y : Way) (write last : Bool) (at room : ℕ) (cells cells' : List ℤ) (r : ℕ) : Type 0 where
  pub counted : write ≡ false → (cells' ≡ cells) × (last ≡ false → Counted (at + length (way_cells s y)) room r) × (leb r room ≡ leb (at + length (way_cells s y)) room)
  pub written : write ≡ true → last ≡ false → (cells' ≡ sets cells at (way_cells s y)) × (r ≡ at + length (way_cells s y))

-- the cells of a plan's rows, from the place on where they are wanted, do not go past another
pub record Bounds (l : Ledger) (ns : List ℕ) (vs : List ℤ) (p : Plan) (lefts rights : Rows) (aim : Aim) (r : ℕ) : Type 0 where
  pub enough : (ts ws gs ps : List ℕ) → Suits (record { ledger = l; names = ns; times = ts; values = vs }) p → Masked (record { ledger = l; names = ns; times = ts; values = vs }) ws gs ps p lefts rights
      → aim.at + length (plan_rows (record { ledger = l; names = ns; times = ts; values = vs }) ws gs ps p) * aim.width ≤ r
