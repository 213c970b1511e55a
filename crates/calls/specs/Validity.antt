-- Refusal 12: what may be lent to a call. Counts and numbers are within their bounds, names are names, streams and columns exist, terms stand where they may,
-- and times neither fall nor pass the clock. All that calls and accepted lines make is valid.
use Rattle.std.specs.Prelude.{List, [], ◌∷◌, Bool, true, false, ◌&&◌, not, ℕ, leb, ltb, eqb, length}
use Rattle.std.proofs.Math.Option.{Option, none, some}
use Rattle.lists.specs.Lists.{every, some?, empty?, distinct, same_list}
use Rattle.syntax.specs.Grammar.{Bytes, bytes, name?, Cond, Right, read, figures, Entry}
use Rattle.model.specs.Conditions.{tests}
use Rattle.model.specs.Queries.{Stream, Schema, Term, column, time, number, self, Compare, Grant, Caller, Row, Record}
use Rattle.model.specs.Checks.{grant_placed}
use Rattle.calls.specs.Names.{stream_names}
use Rattle.syntax.specs.Limits.{short, is_value, top, max_streams, max_columns, max_rows, max_grants, max_roles, max_entries}
use Rattle.calls.specs.Bounds.{bounds_compute}

unfoldable pub valid_name : Bytes → Bool
valid_name n = name? n && short n

-- no stream or column has one of these names
unfoldable pub reserved : Bytes → Bool
reserved n = some? (same_list n) (bytes "self" ∷ bytes "time" ∷ bytes "figure" ∷ [])

unfoldable pub free_name : Bytes → Bool
free_name n = valid_name n && not (reserved n)

-- ---- the record

unfoldable pub valid_stream : Stream → Bool
valid_stream s = free_name s.name && every free_name s.columns && not (empty? s.columns) && leb (length s.columns) max_columns && distinct same_list s.columns

unfoldable pub valid_schema : Schema → Bool
valid_schema d = leb (length d) max_streams && every valid_stream d && distinct same_list (stream_names d)

-- times do not fall, and are not past the clock
unfoldable pub steady : ℕ → ℕ → List Row → Bool
steady low clock [] = leb low clock
steady low clock (r ∷ rs) = leb low r.at && steady r.at clock rs

unfoldable pub valid_row : ℕ → Row → Bool
valid_row width r = eqb (length r.values) width && every is_value r.values

unfoldable pub valid_rows : ℕ → ℕ → List Row → Bool
valid_rows clock width rs = leb (length rs) max_rows && steady 0 clock rs && every (valid_row width) rs

-- as many lists of rows as streams
unfoldable pub rows_match : ℕ → Schema → List (List Row) → Bool
rows_match clock [] [] = true
rows_match clock [] (rs ∷ rss) = false
rows_match clock (s ∷ d) [] = false
rows_match clock (s ∷ d) (rs ∷ rss) = valid_rows clock (length s.columns) rs && rows_match clock d rss

unfoldable pub valid_record : Record → Bool
valid_record x = leb x.clock top && valid_schema x.schema && rows_match x.clock x.schema x.rows

-- ---- grants

unfoldable pub valid_term : Term → Bool
valid_term (column c) = true
valid_term time = true
valid_term (number z) = is_value z
valid_term (self n) = valid_name n

unfoldable pub valid_cond : Cond Compare → Bool
valid_cond c = every (λ t. valid_term t.left && valid_term t.right) (tests c)

unfoldable pub valid_limit : Option ℕ → Bool
valid_limit none = true
valid_limit (some n) = leb n top

-- a reading grant has no window
unfoldable pub valid_window : Right → ℕ → ℕ → Bool
valid_window read size offset = eqb size 0 && eqb offset 0
valid_window (figures f) size offset = leb size top && leb offset top

unfoldable pub valid_grant : Schema → Grant → Bool
valid_grant d g =
    valid_name g.role && every (λ s. ltb s (length d)) g.of && distinct eqb g.of && not (empty? g.shown) && grant_placed d g
    && every valid_cond g.when && valid_limit g.from && valid_limit g.to && valid_window g.right g.size g.offset

unfoldable pub valid_catalogue : Schema → List Grant → Bool
valid_catalogue d gs = leb (length gs) max_grants && every (valid_grant d) gs

-- ---- callers

unfoldable pub entry_names : List Entry → List Bytes
entry_names [] = []
entry_names (e ∷ es) = e.name ∷ entry_names es

unfoldable pub valid_caller : Caller → Bool
valid_caller who =
    leb (length who.roles) max_roles && every valid_name who.roles && distinct same_list who.roles
    && leb (length who.profile) max_entries && every (λ e. valid_name e.name && is_value e.value) who.profile && distinct same_list (entry_names who.profile)

-- To unfold this is to unfold every definition above.
unfoldable pub validity_computes : Unit {0}
unfolding bounds_compute valid_name reserved free_name valid_stream valid_schema steady valid_row valid_rows rows_match valid_record valid_term valid_cond valid_limit valid_window valid_grant valid_catalogue entry_names valid_caller
validity_computes = tt
