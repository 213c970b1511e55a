-- What the caller's own query gives under grants: the definitions with which Questions.antt compares the routes. They use the plain meaning and a grant's view, and nothing of how routes are made.
use mathlib.Core.List.{List, [], ◌∷◌, map}
use mathlib.Core.Bool.{Bool, true, false, ◌&&◌, ◌||◌, not}
use mathlib.Core.Option.{Option, none, some}
use Prim.Native.Nat.{ℕ, zero, suc, pred}
use lib.Dec.{eqb}
use lib.ListN.{length, take, drop}
use Rattle.lists.specs.Lists.{select, every, some?, empty?, gather, nth}
use Rattle.syntax.specs.Grammar.{Cond}
use Rattle.model.specs.Queries.{Schema, Col, figure, same_col, columns_of, Compare, Query, source, pick, keep, join, aggregate, sources, header, Grant, Caller, Row, Table, Record}
use Rattle.model.specs.Meaning.{picked, aggregated, plain}
use Rattle.model.specs.Grants.{shown_of, view}
use Rattle.model.specs.Checks.{has, within}
use Rattle.model.specs.Routes.{is_equality, single}
use Rattle.model.specs.Answers.{answers_compute}

-- ---- records with one row of each stream

-- the rows of the streams, in their order
abbrev pub Rows : Type 0
Rows = List (List Row)

-- other rows for stream s
unfoldable pub put : ℕ → List Row → Rows → Rows
put zero rs [] = rs ∷ []
put zero rs (_ ∷ xs) = rs ∷ xs
put (suc s) rs [] = [] ∷ put s rs []
put (suc s) rs (x ∷ xs) = x ∷ put s rs xs

-- one row of each of the streams, in every way: by the row of the first stream, then by that of the second
unfoldable pub one_each : List ℕ → Rows → List Rows
one_each [] xs = xs ∷ []
one_each (s ∷ ss) xs = gather (λ r. one_each ss (put s (r ∷ []) xs)) (nth [] xs s)

abbrev pub with_rows : Record → Rows → Record
with_rows x xs = record { clock = x.clock; schema = x.schema; rows = xs }

-- ---- the caller's own query under grants

-- each of the grants shows a row of the record
unfoldable pub all_show : Caller → List Grant → Record → Bool
all_show who gs y = every (λ g. not (empty? (view y who g).rows)) gs

-- row by row: what the query itself gives of one row of each of its streams, for those rows that the grants show
unfoldable pub by_row : Record → Caller → List Grant → Query ℕ → Table
by_row x who gs q = record {
  cols = header (columns_of x.schema) q;
  rows = gather (λ y. (plain y q).rows) (select (all_show who gs) (map (with_rows x) (one_each (sources q) x.rows)));
}

-- and with an aggregate: the windows over these rows, and the picks above
unfoldable pub own : Record → Caller → List Grant → Query ℕ → Table
own x who gs (source s) = by_row x who gs (source s)
own x who gs (pick c q) = picked c (own x who gs q)
own x who gs (keep cs q) = by_row x who gs (keep cs q)
own x who gs (join a b q r) = by_row x who gs (join a b q r)
own x who gs (aggregate f c size offset q) = aggregated x.clock f c size offset (own x who gs q)

-- one of the grants shows the column; `figure` needs no showing
unfoldable pub shown_by : Schema → List Grant → Col → Bool
shown_by d gs c = same_col c figure || some? (λ g. has (shown_of d g) c) gs

-- the columns of the query's answer that are left
unfoldable pub left : Schema → List Grant → Query ℕ → List Col
left d gs q = select (shown_by d gs) (header (columns_of d) q)

-- the grants of these numbers, which count from 1
unfoldable pub grants_at : List Grant → List ℕ → List Grant
grants_at catalogue ns = gather (λ n. take 1 (drop (pred n) catalogue)) ns

-- ---- tests

-- each row of the streams has a value for each column
unfoldable pub full : Record → List ℕ → Bool
full x ss = every (λ s. every (λ r. eqb (length r.values) (length (columns_of x.schema s))) (nth [] x.rows s)) ss

-- the condition is the equality of the query's join, either side first
unfoldable pub joins_by : Cond Compare → Query ℕ → Bool
joins_by e (source s) = false
joins_by e (pick c q) = joins_by e q
joins_by e (keep cs q) = joins_by e q
joins_by e (join a b q r) = is_equality a b e
joins_by e (aggregate f c size offset q) = joins_by e q

unfoldable pub absent : Option ℕ → Bool
absent none = true
absent (some n) = false

-- a grant that keeps nothing of its streams from the query: it shows every column at every time, and has no condition but, on a pair, the query's own equality
unfoldable pub open_to : Schema → Query ℕ → Grant → Bool
open_to d q g =
    within (gather (columns_of d) g.of) g.shown && every (λ c. not (single g.of) && joins_by c q) g.when
    && absent g.from && absent g.to

-- To unfold this is to unfold every definition above.
unfoldable pub asked_computes : Unit {0}
unfolding answers_compute put one_each all_show by_row own shown_by left grants_at full joins_by absent open_to
asked_computes = tt
