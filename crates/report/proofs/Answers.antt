-- The cells of an answer print the rows of its routes' tables, a line each.
use mathlib.Core.Path.{◌≡◌, refl, sym, ap, ◌∙◌}
use mathlib.Core.List.{List, [], ◌∷◌, ◌++◌, append_assoc}
use Prim.Native.Nat.{ℕ, suc}
use lib.IntN.{ℤ, pos}
use lib.ListN.{length}
use Rattle.lists.specs.Lists.{All, all_nil, all_cons, gather, nth}
use Rattle.syntax.specs.Grammar.{Bytes, bytes, put_nat, put_int, put_items}
use Rattle.model.specs.Queries.{Row, Table, Record, Caller}
use Rattle.model.specs.Routes.{Route}
use Rattle.model.specs.Answers.{route_table, row_cells, grant_cells, table_cells, answer_cells}
use Rattle.model.proofs.Widths.{Wide, route_wide}
use Rattle.calls.specs.Scripts.{cells}
use Rattle.report.specs.declared.Due.TheVariants.{Grant, Cell}
use Rattle.report.specs.Outcomes.{rows_due, row_due, due_after, front_of, cell_end, end_of, put_cell, put_cells, put_outcome, outcome_text, put_each, put_header, put_row, put_table, put_answer}

-- a cell of a row and those that follow it
row_printed : (w n : ℕ) (z : ℤ) (vs more : List ℤ) (r : Bytes)
    → put_cells (Cell (length vs) w n) (z ∷ (vs ++ more)) r ≡ put_int z (put_items put_int vs (10 ∷ put_cells (rows_due w n) more r))
unfolding put_cells put_cell due_after row_due front_of end_of cell_end put_items
row_printed w n z [] more r = refl
row_printed w n z (v ∷ vs) more r = ap (λ (b : Bytes). put_int z (32 ∷ b)) (row_printed w n v vs more r)

-- rows of one width
rows_printed : (c : ℕ) (rs : List Row) → All (λ (x : Row). length x.values ≡ c) rs → (more : List ℤ) (r : Bytes)
    → put_cells (rows_due (suc c) (length rs)) (gather row_cells rs ++ more) r ≡ put_each put_row rs (put_cells Grant more r)
unfolding rows_due gather put_each row_cells put_row put_int
rows_printed c [] all_nil more r = refl
rows_printed c (x ∷ rs) (all_cons e es) more r =
    ap (λ (zs : List ℤ). put_cells (Cell c (suc c) (length rs)) (pos x.at ∷ zs) r) (append_assoc x.values (gather row_cells rs) more)
    ∙ ap (λ (k : ℕ). put_cells (Cell k (suc c) (length rs)) (pos x.at ∷ (x.values ++ (gather row_cells rs ++ more))) r) (sym e)
    ∙ row_printed (suc c) (length rs) (pos x.at) x.values (gather row_cells rs ++ more) r
    ∙ ap (λ (b : Bytes). put_nat x.at (put_items put_int x.values (10 ∷ b))) (rows_printed c rs es more r)

-- a route's numbers and rows
table_printed : (ns : List ℕ) (t : Table) → Wide t → (more : List ℤ) (r : Bytes) → put_cells Grant (table_cells ns t ++ more) r ≡ put_table ns t (put_cells Grant more r)
unfolding table_cells grant_cells put_cells put_cell due_after front_of end_of put_int put_table put_header put_items
table_printed ns t w more r =
    ap (put_header (bytes "route") (nth 0 ns 0 ∷ nth 0 ns 1 ∷ suc (length t.cols) ∷ length t.rows ∷ [])) (rows_printed (length t.cols) t.rows w more r)

tables_printed : (x : Record) (who : Caller) (rs : List Route) (r : Bytes)
    → put_cells Grant (gather (λ y. table_cells y.grants (route_table x who y)) rs) r ≡ put_each (λ y. put_table y.grants (route_table x who y)) rs r
unfolding put_cells gather put_each
tables_printed x who [] r = refl
tables_printed x who (y ∷ rs) r =
    table_printed y.grants (route_table x who y) (route_wide x who y) (gather (λ y. table_cells y.grants (route_table x who y)) rs) r
    ∙ ap (put_table y.grants (route_table x who y)) (tables_printed x who rs r)

-- What an answer prints is written from the tables of its routes alone: a line of its numbers for each, and a line for each row.
pub answer_printed : (x : Record) (who : Caller) (rs : List Route) → outcome_text (cells (answer_cells x who rs)) ≡ put_answer x who rs []
unfolding outcome_text put_outcome answer_cells put_cells put_cell due_after front_of end_of put_int put_answer put_header put_items
answer_printed x who rs = ap (put_header (bytes "routes") (length rs ∷ [])) (tables_printed x who rs [])
