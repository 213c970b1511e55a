-- The rows that conditions are tried on: those of one stream, each beside one row of another where it is given; and those that conditions select.
use Rattle.std.specs.Prelude.{List, [], ◌++◌, map, Bool, ◌&&◌, cond, ℕ, ◌+◌, ◌*◌, min, ℤ, leb, ltb, length, get_or}
use Rattle.lists.specs.Lists.{count_from, every}
use Rattle.syntax.specs.Grammar.{Cond, ge, le}
use Rattle.syntax.specs.Limits.{max_streams, max_rows, top}
use Rattle.model.specs.Queries.{Col, col, Compare, Row}
use Rattle.model.specs.Meaning.{holds, both}
use Rattle.model.specs.Grants.{limit}
use Rattle.ledger.specs.Records.{row_in, places_size, values_size}
use Rattle.nodes.specs.Nodes.{cond_in}
unfoldable pub use Rattle.nodes.specs.Profiles.{entry_at, profile_in}
use Rattle.grant.specs.Grants.{limit_of}
use Rattle.rows.specs.declared.Rows.{Rows}
use Rattle.rows.specs.Masks.{rows_of, no_rows}
use Rattle.selection.specs.declared.Scope.{Scope}

-- ---- columns and rows

unfoldable pub columns_in : ℕ → ℕ → List Col
columns_in s width = map (col s) (count_from 0 width)

-- the row at a place, whatever is lent: a time above the highest counts as the highest
unfoldable pub row_at : List ℕ → List ℤ → ℕ → ℕ → Row
row_at ts vs width at = record { at = min (get_or ts at 0) top; values = (row_in ts vs width at).values }

-- there is a left row: its place is one of those that are lent
unfoldable pub paired : Scope → Bool
paired sc = ltb sc.fixed places_size

-- the left columns stand first: of two columns alike the left one is named
unfoldable pub scope_columns : Scope → List Col
scope_columns sc = cond (paired sc) (columns_in sc.other sc.breadth ++ columns_in sc.stream sc.width) (columns_in sc.stream sc.width)

-- row i of the stream, beside the left row
unfoldable pub scope_row : Scope → List ℕ → List ℤ → ℕ → Row
scope_row sc ts vs i =
    cond (paired sc) (both (row_at ts vs sc.breadth sc.fixed) (row_at ts vs sc.width (sc.stream * max_rows + i)))
    (row_at ts vs sc.width (sc.stream * max_rows + i))

-- the stream is one of four with at most 128 rows, and memory is lent for all
unfoldable pub times_fit : Scope → List ℕ → Bool
times_fit sc ts = ltb sc.stream max_streams && leb sc.rows max_rows && leb places_size (length ts)

unfoldable pub scope_fits : Scope → List ℕ → List ℤ → Bool
scope_fits sc ts vs = times_fit sc ts && leb values_size (length vs)

-- ---- what is selected

-- the condition whose words end at a place
unfoldable pub cond_at : List ℕ → ℕ → Cond Compare
cond_at ws k = cond_in (2 * k) ws k

-- a condition holds of row i
unfoldable pub holds_at : Scope → List ℕ → List ℤ → Cond Compare → ℕ → Bool
holds_at sc ts vs c i = holds (scope_columns sc) (scope_row sc ts vs i) c

-- and all of some
unfoldable pub meets : Scope → List ℕ → List ℤ → List (Cond Compare) → ℕ → Bool
meets sc ts vs cs i = every (holds (scope_columns sc) (scope_row sc ts vs i)) cs

-- the rows that a condition selects; none where memory is short
unfoldable pub selected : Scope → List ℕ → List ℤ → Cond Compare → Rows
selected sc ts vs c = cond (scope_fits sc ts vs) (rows_of (holds_at sc ts vs c) 0 sc.rows) no_rows

-- and those that some conditions select together
unfoldable pub selected_all : Scope → List ℕ → List ℤ → List (Cond Compare) → Rows
selected_all sc ts vs cs = cond (scope_fits sc ts vs) (rows_of (meets sc ts vs cs) 0 sc.rows) no_rows

-- ---- a first and a last time

-- above the highest time there is no limit
unfoldable pub time_limits : ℕ → ℕ → List (Cond Compare)
time_limits from to = limit ge (limit_of from) ++ limit le (limit_of to)

-- the rows within them: no condition of these names a value
unfoldable pub timely : Scope → List ℕ → ℕ → ℕ → Rows
timely sc ts from to = cond (times_fit sc ts) (rows_of (meets sc ts [] (time_limits from to)) 0 sc.rows) no_rows
