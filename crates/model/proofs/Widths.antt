-- Every row of a route has a value for each of its columns, and an answer is as long as its counts say.
use mathlib.Core.Path.{◌≡◌, refl, sym, ap, ap₂, ◌∙◌}
use mathlib.Core.List.{List, [], ◌∷◌}
use Prim.Native.Nat.{ℕ, suc, ◌+◌, ◌*◌}
use native.Mathlib.Omega.{arith}
use lib.IntN.{ℤ}
use lib.ListN.{length, length-append, length-map}
use Rattle.lists.specs.Lists.{gather}
use Rattle.lists.proofs.Laws.{All, all_nil, all_cons, all_head, all_any, all_select, all_weaken, all_left, all_right, all_map, all_gather}
use Rattle.syntax.specs.Grammar.{Fn}
use Rattle.model.specs.Queries.{Col, Query, source, pick, keep, join, aggregate, sources, Caller, Row, Table, Record}
use Rattle.model.specs.Aggregates.{closed, answer_row, window, figures_of}
use Rattle.model.specs.Meaning.{value, picked, kept_row, kept, both, pairs, aggregated, meaning}
use Rattle.model.specs.Grants.{view}
use Rattle.model.specs.Routes.{Route}
use Rattle.model.specs.Answers.{route_table, row_cells, grant_cells, table_cells, answer_cells}

-- ---- rows

-- each row has as many values as there are columns
abbrev pub Wide : Table → Type 0
Wide t = All (λ (r : Row). length r.values ≡ length t.cols) t.rows

kept_wide : (cs : List Col) (t : Table) → Wide (kept cs t)
unfolding kept kept_row
kept_wide cs t = all_map {P = λ r. Unit {0}} (kept_row t.cols cs) (λ r h. length-map cs (value t.cols r.values)) (all_any t.rows)

pub pairs_wide : (t u : Table) → Wide t → Wide u → Wide (pairs t u)
unfolding pairs both
pairs_wide t u h k =
    all_gather {P = λ x. length x.values ≡ length t.cols}
    (λ x p. all_map {P = λ y. length y.values ≡ length u.cols} (both x)
    (λ y q. length-append x.values y.values ∙ ap₂ ◌+◌ p q ∙ sym (length-append t.cols u.cols)) k) h

answer_wide : (f : Fn) (end : ℕ) (vs : List ℤ) → All (λ (r : Row). length r.values ≡ 1) (answer_row f end vs)
unfolding answer_row
answer_wide f end [] = all_nil
answer_wide f end (v ∷ vs) = all_cons refl all_nil

pub aggregated_wide : (k : ℕ) (f : Fn) (c : Col) (size offset : ℕ) (t : Table) → Wide (aggregated k f c size offset t)
unfolding aggregated figures_of window
aggregated_wide k f c size offset t = all_gather {P = λ j. Unit {0}} (λ j h. answer_wide f _ _) (all_any (closed k size offset))

pub meaning_wide : {S : Type 0} (k : ℕ) (tab : S → Table) (q : Query S) → All (λ s. Wide (tab s)) (sources q) → Wide (meaning k tab q)
unfolding meaning picked sources
meaning_wide k tab (source s) h = all_head h
meaning_wide k tab (pick c q) h = all_select _ (λ r t p. p) (meaning_wide k tab q h)
meaning_wide k tab (keep cs q) h = kept_wide cs (meaning k tab q)
meaning_wide k tab (join a b q r) h =
    all_select _ (λ x t p. p)
    (pairs_wide (meaning k tab q) (meaning k tab r) (meaning_wide k tab q (all_left (sources q) (sources r) h)) (meaning_wide k tab r (all_right (sources q) (sources r) h)))
meaning_wide k tab (aggregate f c size offset q) h = aggregated_wide k f c size offset (meaning k tab q)

-- whatever the record holds
pub route_wide : (x : Record) (who : Caller) (r : Route) → Wide (route_table x who r)
unfolding route_table view
route_wide x who r = meaning_wide x.clock (λ s. view x who s.grant) r.query (all_weaken (λ s u. kept_wide _ _) (all_any (sources r.query)))

-- ---- cells

rows_long : (n : ℕ) {rs : List Row} → All (λ (r : Row). length r.values ≡ n) rs → length (gather row_cells rs) ≡ length rs * suc n
unfolding gather row_cells
rows_long n all_nil = omega arith
rows_long n (all_cons {x} {xs} h hs) = length-append (row_cells x) (gather row_cells xs) ∙ ap₂ (λ a b. suc a + b) h (rows_long n hs) ∙ omega arith

-- four cells, and for each row its time and its values
pub table_long : (ns : List ℕ) (t : Table) → Wide t → length (table_cells ns t) ≡ 4 + length t.rows * suc (length t.cols)
unfolding table_cells grant_cells
table_long ns t h = ap (λ n. suc (suc (suc (suc n)))) (rows_long (length t.cols) h) ∙ omega arith

-- the cells of each route, added up
unfoldable pub tables_length : Record → Caller → List Route → ℕ
tables_length x who [] = 0
tables_length x who (r ∷ rs) = let t = route_table x who r in 4 + length t.rows * suc (length t.cols) + tables_length x who rs

tables_long : (x : Record) (who : Caller) (rs : List Route) → length (gather (λ r. table_cells r.grants (route_table x who r)) rs) ≡ tables_length x who rs
unfolding gather tables_length
tables_long x who [] = refl
tables_long x who (r ∷ rs) =
    length-append (table_cells r.grants (route_table x who r)) _ ∙ ap₂ ◌+◌ (table_long r.grants (route_table x who r) (route_wide x who r)) (tables_long x who rs)

-- one cell, and the cells of each route
pub answer_long : (x : Record) (who : Caller) (rs : List Route) → length (answer_cells x who rs) ≡ 1 + tables_length x who rs
unfolding answer_cells
answer_long x who rs = let h = tables_long x who rs in omega arith
