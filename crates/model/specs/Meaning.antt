-- The plain meaning of a query: a table, that is columns and rows.
use Rattle.std.specs.Prelude.{List, [], ◌∷◌, ◌++◌, map, Bool, ◌&&◌, ◌||◌, cond, ℕ, max as later, ℤ, pos}
use Rattle.std.specs.Int.Signed.{lt_z, le_z}
use Rattle.lists.specs.Lists.{select, gather, nth}
use Rattle.syntax.specs.Grammar.{Op, eq, ne, lt, le, gt, ge, Fn, Cond, test}
use Rattle.model.specs.Conditions.{true_of, conditions_compute}
use Rattle.model.specs.Queries.{Col, figure, same_col, columns_of, Term, column, time, number, self, Compare, Query, source, pick, keep, join, aggregate, Row, Table, Record, queries_compute}
use Rattle.model.specs.Aggregates.{figures_of, aggregates_compute}

-- ---- conditions

-- the value of a column in a row with the given columns
unfoldable pub value : List Col → List ℤ → Col → ℤ
value [] vs c = pos 0
value (d ∷ ds) [] c = pos 0
value (d ∷ ds) (v ∷ vs) c = cond (same_col c d) v (value ds vs c)

-- no condition that is evaluated names a profile entry: its value has been put in
unfoldable pub term_value : List Col → Row → Term → ℤ
term_value ds r (column c) = value ds r.values c
term_value ds r time = pos r.at
term_value ds r (number z) = z
term_value ds r (self n) = pos 0

unfoldable pub compares : Op → ℤ → ℤ → Bool
compares eq a b = le_z a b && le_z b a
compares ne a b = lt_z a b || lt_z b a
compares lt a b = lt_z a b
compares le a b = le_z a b
compares gt a b = lt_z b a
compares ge a b = le_z b a

unfoldable pub compare_holds : List Col → Row → Compare → Bool
compare_holds ds r t = compares t.op (term_value ds r t.left) (term_value ds r t.right)

unfoldable pub holds : List Col → Row → Cond Compare → Bool
holds ds r c = true_of (compare_holds ds r) c

-- ---- one function from tables to tables for each form

unfoldable pub picked : Cond Compare → Table → Table
picked c t = record { cols = t.cols; rows = select (λ r. holds t.cols r c) t.rows }

unfoldable pub kept_row : List Col → List Col → Row → Row
kept_row ds cs r = record { at = r.at; values = map (value ds r.values) cs }

-- time is always carried
unfoldable pub kept : List Col → Table → Table
kept cs t = record { cols = cs; rows = map (kept_row t.cols cs) t.rows }

-- a joined row's time is the later of the two
unfoldable pub both : Row → Row → Row
both l r = record { at = later l.at r.at; values = l.values ++ r.values }

-- all pairs, left-major
unfoldable pub pairs : Table → Table → Table
pairs l r = record { cols = l.cols ++ r.cols; rows = gather (λ x. map (both x) r.rows) l.rows }

unfoldable pub equality : Col → Col → Cond Compare
equality a b = test (record { op = eq; left = column a; right = column b })

unfoldable pub aggregated : ℕ → Fn → Col → ℕ → ℕ → Table → Table
aggregated clock f c size offset t = record { cols = figure ∷ []; rows = figures_of clock f (λ r. value t.cols r.values c) size offset t.rows }

-- ---- the meaning, at a clock and with a table for each source

unfoldable pub meaning : {S : Type 0} → ℕ → (S → Table) → Query S → Table
meaning clock tab (source s) = tab s
meaning clock tab (pick c q) = picked c (meaning clock tab q)
meaning clock tab (keep cs q) = kept cs (meaning clock tab q)
meaning clock tab (join a b q r) = picked (equality a b) (pairs (meaning clock tab q) (meaning clock tab r))
meaning clock tab (aggregate f c size offset q) = aggregated clock f c size offset (meaning clock tab q)

unfoldable pub table_of : Record → ℕ → Table
table_of x s = record { cols = columns_of x.schema s; rows = nth [] x.rows s }

-- a query run with no grants
unfoldable pub plain : Record → Query ℕ → Table
plain x q = meaning x.clock (table_of x) q

-- To unfold this is to unfold every definition above.
unfoldable pub meaning_computes : Unit {0}
unfolding conditions_compute queries_compute aggregates_compute value term_value compares compare_holds holds picked kept_row kept both pairs equality aggregated meaning table_of plain
meaning_computes = tt
