-- Small queries and grants, by computation.
use mathlib.Core.Path.{◌≡◌, refl}
use mathlib.Core.List.{List, [], ◌∷◌, map}
use mathlib.Core.Bool.{true, ◌&&◌}
use Rattle.lists.specs.Lists.{every}
use Prim.Native.Nat.{ℕ}
use lib.IntN.{ℤ, pos, negsuc}
use lib.ListN.{length}
use mathlib.Core.Option.{none, some}
use Rattle.syntax.specs.Grammar.{eq, gt, min, max, count, avg, sum, Right, read, figures, Cond, test, neg}
use Rattle.model.specs.Queries.{Stream, col, Term, column, time, number, self, Compare, Query, source, pick, keep, join, aggregate, sources, Grant, Caller, Row, Record}
use Rattle.model.specs.Meaning.{meaning, plain, meaning_computes}
use Rattle.model.specs.Grants.{view}
use Rattle.model.specs.Checks.{placed}
use Rattle.model.specs.Routes.{Source, over_view, routes}
use Rattle.model.specs.Rewriting.{rewritten}
use Rattle.model.specs.Answers.{route_table, answer_cells, answers_compute}
use Rattle.model.proofs.Asked.{grants_at, full, open_to, asked_computes}

abbrev two : Stream
two = record { name = []; columns = [] ∷ [] ∷ [] }

abbrev at : ℕ → ℤ → ℤ → Row
at t v w = record { at = t; values = v ∷ w ∷ [] }

abbrev x : Record
x =
    record {
      clock = 10;
      schema = two ∷ two ∷ [];
      rows = (at 2 (pos 1) (pos 10) ∷ at 5 (pos 2) (pos 20) ∷ at 5 (pos 1) (pos 30) ∷ []) ∷ (at 3 (pos 1) (negsuc 0) ∷ at 9 (pos 1) (pos 4) ∷ []) ∷ [];
    }

abbrev joined : Query ℕ
joined = join (col 1 0) (col 0 0) (source 0) (source 1)

abbrev above : Term → ℤ → Cond Compare
above t z = test (record { op = gt; left = t; right = number z })

-- left row by left row, and within it right row by right row; the time is the later of the two
pairs_sample : (plain x (keep (col 1 1 ∷ col 0 1 ∷ []) joined)).rows ≡ at 3 (negsuc 0) (pos 10) ∷ at 9 (pos 4) (pos 10) ∷ at 5 (negsuc 0) (pos 30) ∷ at 9 (pos 4) (pos 30) ∷ []
unfolding meaning_computes
pairs_sample = refl

picks_sample : (plain x (pick (neg (above (column (col 0 1)) (pos 10))) (pick (above time (pos 1)) (source 0)))).rows ≡ at 2 (pos 1) (pos 10) ∷ []
unfolding meaning_computes
picks_sample = refl

abbrev ends : ℤ → ℤ → ℤ → List Row
ends a b c = record { at = 3; values = a ∷ [] } ∷ record { at = 5; values = b ∷ [] } ∷ record { at = 7; values = c ∷ [] } ∷ []

-- windows of length 3 from 0, 2, 4, ..: the row at 2 is in two of them, and those at 5 in the one from 4
windows_sample : map (λ f. (plain x (aggregate f (col 0 1) 3 2 (source 0))).rows) (min ∷ max ∷ count ∷ avg ∷ sum ∷ []) ≡
    ends (pos 10) (pos 10) (pos 20) ∷ ends (pos 10) (pos 10) (pos 30) ∷ ends (pos 1) (pos 1) (pos 2) ∷ ends (pos 10) (pos 10) (pos 25) ∷ ends (pos 10) (pos 10) (pos 50) ∷ []
unfolding meaning_computes
windows_sample = refl

-- the row at 9 is in the window from 8 to 11 alone, which is open at 10
open_sample : (plain x (aggregate sum (col 1 1) 3 2 (source 1))).rows ≡ record { at = 5; values = negsuc 0 ∷ [] } ∷ []
unfolding meaning_computes
open_sample = refl

-- ---- under grants

abbrev is : Term → Term → Cond Compare
is a b = test (record { op = eq; left = a; right = b })

-- the first withholds the column that its condition names, and has times; the second is on the pair
abbrev grants : List Grant
grants =
    record { role = 7 ∷ []; right = read; of = 0 ∷ []; shown = col 0 1 ∷ []; when = is (column (col 0 0)) (self (8 ∷ [])) ∷ []; from = some 3; to = some 9; size = 0; offset = 0 }
    ∷ record { role = 7 ∷ []; right = read; of = 0 ∷ 1 ∷ []; shown = col 0 1 ∷ col 1 1 ∷ []; when = is (column (col 0 0)) (column (col 1 0)) ∷ []; from = none; to = none; size = 0; offset = 0 }
    ∷ []

abbrev who : Caller
who = record { roles = (7 ∷ []) ∷ []; profile = record { name = 8 ∷ []; value = pos 1 } ∷ [] }

abbrev rows_by_route : Query ℕ → List (List Row)
rows_by_route q = map (λ r. (route_table x who r).rows) (routes x.schema who grants q)

-- the same by the rewritten queries, run with no grants
abbrev rows_by_line : Query ℕ → List (List Row)
rows_by_line q = map (λ r. (plain x (rewritten x.schema who r)).rows) (routes x.schema who grants q)

abbrev one_value : ℕ → ℤ → Row
one_value t v = record { at = t; values = v ∷ [] }

abbrev of_view : List (List Row)
of_view = (one_value 5 (pos 30) ∷ []) ∷ []

-- a kept column that is withheld is missing; the answer counts the rows of the view alone
view_sample : rows_by_route (keep (col 0 0 ∷ col 0 1 ∷ []) (source 0)) ≡ of_view
unfolding answers_compute
view_sample = refl

line_sample : rows_by_line (keep (col 0 0 ∷ col 0 1 ∷ []) (source 0)) ≡ of_view
unfolding answers_compute
line_sample = refl

cells_sample : answer_cells x who (routes x.schema who grants (source 0)) ≡ pos 1 ∷ pos 1 ∷ pos 0 ∷ pos 2 ∷ pos 1 ∷ pos 5 ∷ pos 30 ∷ []
unfolding answers_compute
cells_sample = refl

abbrev of_pair : List (List Row)
of_pair = (one_value 3 (negsuc 0) ∷ one_value 9 (pos 4) ∷ []) ∷ []

-- a pick of the left side stands above the pair's view
pair_sample : rows_by_route (keep (col 1 1 ∷ []) (join (col 0 0) (col 1 0) (pick (neg (above (column (col 0 1)) (pos 10))) (source 0)) (source 1))) ≡ of_pair
unfolding answers_compute
pair_sample = refl

pair_line_sample : rows_by_line (keep (col 1 1 ∷ []) (join (col 0 0) (col 1 0) (pick (neg (above (column (col 0 1)) (pos 10))) (source 0)) (source 1))) ≡ of_pair
unfolding answers_compute
pair_line_sample = refl

-- ---- picks of the sides, under open grants: on each stream, and on the pair

abbrev y : Record
y =
    record {
      clock = 10;
      schema = two ∷ two ∷ [];
      rows = (at 1 (pos 1) (pos 10) ∷ at 2 (pos 1) (pos 20) ∷ at 3 (pos 1) (pos 30) ∷ []) ∷ (at 4 (pos 1) (pos 5) ∷ at 5 (pos 1) (pos 6) ∷ at 6 (pos 1) (pos 7) ∷ []) ∷ [];
    }

abbrev open_on : Right → List ℕ → List (Cond Compare) → Grant
open_on r ss cs = record { role = 7 ∷ []; right = r; of = ss; shown = col 0 0 ∷ col 0 1 ∷ col 1 0 ∷ col 1 1 ∷ []; when = cs; from = none; to = none; size = 0; offset = 0 }

abbrev equal : List (Cond Compare)
equal = is (column (col 1 0)) (column (col 0 0)) ∷ []

abbrev open_grants : List Grant
open_grants = open_on read (0 ∷ []) [] ∷ open_on read (1 ∷ []) [] ∷ open_on read (0 ∷ 1 ∷ []) equal ∷ open_on (figures sum) (0 ∷ 1 ∷ []) equal ∷ []

-- each route's grants and rows
abbrev answers_of : Query ℕ → List (List ℕ × List Row)
answers_of q = map (λ r. (r.grants, (route_table y who r).rows)) (routes y.schema who open_grants q)

-- the same rows by grants side by side and by the grant on the pair
abbrev both_ways : List Row → List (List ℕ × List Row)
both_ways rs = (1 ∷ 2 ∷ [], rs) ∷ (3 ∷ [], rs) ∷ []

-- of three rows the inner pick takes away the first and the outer one the last
abbrev middle : ℕ → ℤ → ℤ → Query ℕ
middle s low high = pick (neg (above (column (col s 1)) high)) (pick (above (column (col s 1)) low) (source s))

abbrev two_picks : Query ℕ
two_picks = join (col 0 0) (col 1 0) (middle 0 (pos 10) (pos 20)) (middle 1 (pos 5) (pos 6))

abbrev middle_row : Row
middle_row = record { at = 5; values = pos 1 ∷ pos 20 ∷ pos 1 ∷ pos 6 ∷ [] }

two_picks_plain : (plain y two_picks).rows ≡ middle_row ∷ []
unfolding answers_compute
two_picks_plain = refl

-- the claims of Questions.antt hold here: the query is placed, the rows have all their values, and both routes' grants are open to the query
open_here : (placed y.schema two_picks && full y (sources two_picks)) ∷ map (λ r. every (open_to y.schema two_picks) (grants_at open_grants r.grants)) (routes y.schema who open_grants two_picks) ≡ true ∷ true ∷ true ∷ []
unfolding asked_computes
open_here = refl

two_picks_sample : answers_of two_picks ≡ both_ways (middle_row ∷ [])
unfolding answers_compute
two_picks_sample = refl

-- each side drops the column that its picks name, and one more pick stands above
abbrev picks_below_keeps : Query ℕ
picks_below_keeps = pick (above time (pos 5)) (join (col 0 0) (col 1 0) (keep (col 0 0 ∷ []) (middle 0 (pos 10) (pos 20))) (keep (col 1 0 ∷ []) (pick (above (column (col 1 1)) (pos 5)) (source 1))))

picks_below_keeps_plain : (plain y picks_below_keeps).rows ≡ at 6 (pos 1) (pos 1) ∷ []
unfolding answers_compute
picks_below_keeps_plain = refl

picks_below_keeps_sample : answers_of picks_below_keeps ≡ both_ways (at 6 (pos 1) (pos 1) ∷ [])
unfolding answers_compute
picks_below_keeps_sample = refl

-- the kept columns come in the order of the keep
order_sample : answers_of (keep (col 1 1 ∷ col 0 1 ∷ []) two_picks) ≡ both_ways (at 5 (pos 6) (pos 20) ∷ [])
unfolding answers_compute
order_sample = refl

-- figures of the joined rows, by all three kinds of routes
figures_sample : answers_of (aggregate sum (col 1 1) 5 5 (keep (col 1 1 ∷ []) (join (col 0 0) (col 1 0) (source 0) (source 1))))
    ≡ map (λ ns. (ns, one_value 5 (pos 15) ∷ one_value 10 (pos 39) ∷ [])) ((1 ∷ 2 ∷ []) ∷ (3 ∷ []) ∷ (4 ∷ []) ∷ [])
unfolding answers_compute
figures_sample = refl

-- ---- a pick on `time` below a join

abbrev timed_pick : Query ℕ
timed_pick = join (col 0 0) (col 1 0) (pick (above time (pos 2)) (source 0)) (middle 1 (pos 5) (pos 6))

-- the grant on the pair gives no route
timed_sample : answers_of timed_pick ≡ (1 ∷ 2 ∷ [], record { at = 5; values = pos 1 ∷ pos 30 ∷ pos 1 ∷ pos 6 ∷ [] } ∷ []) ∷ []
unfolding answers_compute
timed_sample = refl

-- over the pair's view, which carries only the joined time, the pick would let all three pairs through, where the query's own answer has one row
timed_witness : map length ((meaning y.clock (λ (s : Source). view y who s.grant) (over_view y.schema timed_pick (record { no = 3; grant = open_on read (0 ∷ 1 ∷ []) equal }))).rows ∷ (plain y timed_pick).rows ∷ []) ≡ 3 ∷ 1 ∷ []
unfolding answers_compute
timed_witness = refl
