-- The checks of what a line says, line form by line form: 3, 2, 6, 4, 5, 7 and 8, in that order. What goes before them and after them stands with the calls.
use Rattle.std.specs.Prelude.{List, [], ◌∷◌, ◌++◌, map, Bool, true, false, ◌&&◌, ◌||◌, not, ℕ, ℤ, leb, ltb, eqb, length}
use Rattle.std.proofs.Math.Option.{Option, none, some}
use Rattle.refusal.specs.declared.Refusal.TheVariants.{Bound, Undeclared, Repeated, Misplaced, WindowSize, ClockBack, StreamFull}
use Rattle.refusal.specs.Checks.{Check, refuse}
use Rattle.lists.specs.Lists.{every, some?, gather, distinct, nth, same_list}
use Rattle.syntax.specs.Grammar as G
use Rattle.syntax.specs.Grammar.{Bytes, Ref, Span, Right, Form, Stream, RowLine, Caller, GrantLine}
use Rattle.syntax.specs.Limits.{max_streams, max_rows, max_grants, is_value, is_time, natural}
use Rattle.model.specs.Queries.{Schema, columns_of, Record, Grant}
use Rattle.model.specs.Checks.{within, placed, sized, grant_placed}
use Rattle.calls.specs.Names.{stream_names, columns_named, stream_number, is_self, column_of, resolve, resolve_grant, cond_refs, show_refs, form_streams, form_refs, form_keeps}
use Rattle.calls.specs.Bounds.{form_bounded, stream_bounded, row_bounded, grant_bounded, caller_bounded}
use Rattle.calls.specs.Validity.{reserved, entry_names}
use Rattle.calls.specs.Replies.{replies_compute}

-- ---- names

unfoldable pub declared : Schema → Bytes → Bool
declared d n = some? (same_list n) (stream_names d)

-- `self.NAME` names no column
unfoldable pub ref_declared : Schema → Ref → Bool
ref_declared d (G.dotted n m) = is_self n || declared d n && some? (same_list m) (columns_named d (stream_number d n))
ref_declared d G.time = true
ref_declared d G.figure = true

unfoldable pub same_ref : Ref → Ref → Bool
same_ref (G.dotted n m) (G.dotted k l) = same_list n k && same_list m l
same_ref (G.dotted n m) G.time = false
same_ref (G.dotted n m) G.figure = false
same_ref G.time (G.dotted k l) = false
same_ref G.time G.time = true
same_ref G.time G.figure = false
same_ref G.figure (G.dotted k l) = false
same_ref G.figure G.time = false
same_ref G.figure G.figure = true

-- ---- (stream S C ..)

unfoldable pub stream_checks : Schema → Stream → List Check
stream_checks d s =
    refuse Bound (not (stream_bounded s && ltb (length d) max_streams))
    ∷ refuse Repeated (declared d s.name || not (distinct same_list s.columns))
    ∷ refuse Misplaced (some? reserved (s.name ∷ s.columns))
    ∷ []

-- ---- the clock and rows

-- a time for a clock
unfoldable pub clock_checks : ℕ → ℤ → List Check
clock_checks clock n =
    refuse Bound (not (is_time n))
    ∷ refuse ClockBack (ltb (natural n) clock)
    ∷ []

-- a row of a stream by its number
unfoldable pub row_checks : Record → ℕ → List ℤ → List Check
row_checks x s vs =
    refuse Bound (not (every is_value vs))
    ∷ refuse Undeclared (leb (length x.schema) s)
    ∷ refuse Misplaced (not (eqb (length vs) (length (columns_named x.schema s))))
    ∷ refuse StreamFull (leb max_rows (length (nth [] x.rows s)))
    ∷ []

-- a row of a stream by its name
unfoldable pub row_line_checks : Record → RowLine → List Check
row_line_checks x w = refuse Bound (not (row_bounded w)) ∷ row_checks x (stream_number x.schema w.name) w.values

-- ---- (grant ..)

-- `window` stands only with the aggregate rights
unfoldable pub window_allowed : Right → Option Span → Bool
window_allowed G.read none = true
window_allowed G.read (some w) = false
window_allowed (G.figures f) w = true

-- the columns that it lists are columns of its streams
unfoldable pub show_placed : Schema → GrantLine → Bool
show_placed d g = within (map (column_of d) (show_refs g.show)) (gather (columns_of d) (map (stream_number d) g.of))

unfoldable pub grant_checks : Schema → List Grant → GrantLine → List Check
grant_checks d gs g =
    refuse Bound (not (grant_bounded g && ltb (length gs) max_grants))
    ∷ refuse Undeclared (not (every (declared d) g.of && every (ref_declared d) (show_refs g.show ++ gather cond_refs g.when)))
    ∷ refuse Repeated (not (distinct same_list g.of && distinct same_ref (show_refs g.show)))
    ∷ refuse Misplaced (not (show_placed d g && (grant_placed d (resolve_grant d g) && window_allowed g.right g.window)))
    ∷ []

-- ---- (caller ..)

unfoldable pub caller_checks : Caller → List Check
caller_checks w =
    refuse Bound (not (caller_bounded w))
    ∷ refuse Repeated (not (distinct same_list w.roles && distinct same_list (entry_names w.profile)))
    ∷ []

-- ---- queries

unfoldable pub query_declared : Schema → Form → Bool
query_declared d q = every (declared d) (form_streams q) && every (ref_declared d) (form_refs q)

unfoldable pub query_checks : Schema → Form → List Check
query_checks d q =
    refuse Bound (not (form_bounded q))
    ∷ refuse Undeclared (not (query_declared d q))
    ∷ refuse Repeated (not (every (distinct same_ref) (form_keeps q)))
    ∷ refuse Misplaced (not (placed d (resolve d q)))
    ∷ refuse WindowSize (not (sized (resolve d q)))
    ∷ []

-- To unfold this is to unfold every definition above.
unfoldable pub tables_compute : Unit {0}
unfolding replies_compute declared ref_declared same_ref stream_checks clock_checks row_checks row_line_checks window_allowed show_placed grant_checks caller_checks query_declared query_checks
tables_compute = tt
