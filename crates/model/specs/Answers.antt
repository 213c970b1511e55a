-- The rows of a route, and the cells of an answer.
use Rattle.std.specs.Prelude.{List, [], ◌∷◌, ◌++◌, ℕ, suc, ℤ, pos, length}
use Rattle.lists.specs.Lists.{gather, nth}
use Rattle.model.specs.Queries.{Row, Table, Record, Caller}
use Rattle.model.specs.Meaning.{meaning}
use Rattle.model.specs.Grants.{view}
use Rattle.model.specs.Routes.{Route}
use Rattle.model.specs.Rewriting.{rewriting_computes}

-- the query's plain meaning with granted views in the place of streams and joined pairs
unfoldable pub route_table : Record → Caller → Route → Table
route_table x who r = meaning x.clock (λ s. view x who s.grant) r.query

unfoldable pub row_cells : Row → List ℤ
row_cells r = pos r.at ∷ r.values

-- the second is 0 where there is only one
unfoldable pub grant_cells : List ℕ → List ℤ
grant_cells ns = pos (nth 0 ns 0) ∷ pos (nth 0 ns 1) ∷ []

-- two grant numbers, width, row count, rows
unfoldable pub table_cells : List ℕ → Table → List ℤ
table_cells ns t = grant_cells ns ++ (pos (suc (length t.cols)) ∷ pos (length t.rows) ∷ gather row_cells t.rows)

-- the number of routes, then each route
unfoldable pub answer_cells : Record → Caller → List Route → List ℤ
answer_cells x who rs = pos (length rs) ∷ gather (λ r. table_cells r.grants (route_table x who r)) rs

-- To unfold this is to unfold every definition above.
unfoldable pub answers_compute : Unit {0}
unfolding rewriting_computes route_table row_cells grant_cells table_cells answer_cells
answers_compute = tt
