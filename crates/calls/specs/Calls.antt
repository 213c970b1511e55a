-- The calls that change the record, and those that add a grant or give a caller: the whole table of each, and what it does.
use Rattle.std.specs.Prelude.{List, [], ◌∷◌, ◌++◌, map, not, cond, ℕ, ℤ, set}
use Rattle.std.proofs.Math.Option.{Option, none, some}
use Rattle.refusal.specs.declared.Refusal.TheVariants.{Lent}
use Rattle.refusal.specs.Checks.{Check, refuse, passes}
use Rattle.lists.specs.Lists.{nth}
use Rattle.syntax.specs.Grammar as G
use Rattle.syntax.specs.Grammar.{Bytes, Stream, RowLine, Caller, GrantLine}
use Rattle.syntax.specs.Limits.{natural}
use Rattle.syntax.specs.Readers.{parse_as, readers_compute}
use Rattle.model.specs.Queries.{Schema, Row, Record, Grant}
use Rattle.calls.specs.Names.{stream_number, resolve_grant}
use Rattle.calls.specs.Validity.{valid_record, valid_schema, valid_catalogue}
use Rattle.calls.specs.Replies.{written}
use Rattle.calls.specs.Tables.{stream_checks, clock_checks, row_checks, row_line_checks, grant_checks, caller_checks, tables_compute}

-- ---- calls on the record

-- a `stream` line as text; a time; a stream's number and a row's values; clear; and the `clock`, `row` and `clear` lines as texts
pub data Call : Type 0 where
  stream : Bytes → Call
  clock : ℤ → Call
  row : ℕ → List ℤ → Call
  clear : Call
  clock_line : Bytes → Call
  row_line : Bytes → Call
  clear_line : Bytes → Call

-- what a call is tried for after 12
unfoldable pub call_checks : Record → Call → List Check
call_checks x (stream bs) = written 0 bs (parse_as G.stream bs) (stream_checks x.schema)
call_checks x (clock n) = clock_checks x.clock n
call_checks x (row s vs) = row_checks x s vs
call_checks x clear = []
call_checks x (clock_line bs) = written 0 bs (parse_as G.clock bs) (clock_checks x.clock)
call_checks x (row_line bs) = written 0 bs (parse_as G.row bs) (row_line_checks x)
call_checks x (clear_line bs) = written 0 bs (parse_as G.clear bs) (λ u. [])

unfoldable pub call_table : Record → Call → List Check
call_table x c = refuse Lent (not (valid_record x)) ∷ call_checks x c

-- ---- what an accepted call does

unfoldable pub with_stream : Record → Option Stream → Record
with_stream x none = x
with_stream x (some s) = record { clock = x.clock; schema = x.schema ++ (s ∷ []); rows = x.rows ++ ([] ∷ []) }

unfoldable pub with_clock : Record → Option ℤ → Record
with_clock x none = x
with_clock x (some n) = record { clock = natural n; schema = x.schema; rows = x.rows }

unfoldable pub add_row : ℕ → Row → List (List Row) → List (List Row)
add_row s r rss = set rss s (nth [] rss s ++ (r ∷ []))

-- a row is stamped with the clock
unfoldable pub with_row : Record → ℕ → List ℤ → Record
with_row x s vs = record { clock = x.clock; schema = x.schema; rows = add_row s (record { at = x.clock; values = vs }) x.rows }

unfoldable pub with_row_line : Record → Option RowLine → Record
with_row_line x none = x
with_row_line x (some w) = with_row x (stream_number x.schema w.name) w.values

-- clear leaves the clock
unfoldable pub cleared : Record → Record
cleared x = record { clock = x.clock; schema = x.schema; rows = map (λ rs. []) x.rows }

unfoldable pub effect : Record → Call → Record
effect x (stream bs) = with_stream x (parse_as G.stream bs)
effect x (clock n) = with_clock x (some n)
effect x (row s vs) = with_row x s vs
effect x clear = cleared x
effect x (clock_line bs) = with_clock x (parse_as G.clock bs)
effect x (row_line bs) = with_row_line x (parse_as G.row bs)
effect x (clear_line bs) = cleared x

-- a refused call changes nothing
unfoldable pub next : Record → Call → Record
next x c = cond (passes (call_table x c)) (effect x c) x

unfoldable pub replay : Record → List Call → Record
replay x [] = x
replay x (c ∷ cs) = replay (next x c) cs

unfoldable pub fresh : Record
fresh = record { clock = 0; schema = []; rows = [] }

-- the record after a list of calls
unfoldable pub after : List Call → Record
after cs = replay fresh cs

-- ---- grants

unfoldable pub grant_table : Schema → List Grant → Bytes → List Check
grant_table d gs bs = refuse Lent (not (valid_schema d)) ∷ refuse Lent (not (valid_catalogue d gs)) ∷ written 0 bs (parse_as G.grant bs) (grant_checks d gs)

-- an accepted grant is the last of the catalogue
unfoldable pub with_grant : Schema → List Grant → Option GrantLine → List Grant
with_grant d gs none = gs
with_grant d gs (some g) = gs ++ (resolve_grant d g ∷ [])

unfoldable pub next_catalogue : Schema → List Grant → Bytes → List Grant
next_catalogue d gs bs = cond (passes (grant_table d gs bs)) (with_grant d gs (parse_as G.grant bs)) gs

-- ---- callers

unfoldable pub caller_table : Bytes → List Check
caller_table bs = written 0 bs (parse_as G.caller bs) caller_checks

unfoldable pub with_caller : Caller → Option Caller → Caller
with_caller who none = who
with_caller who (some w) = w

unfoldable pub nobody : Caller
nobody = record { roles = []; profile = [] }

-- To unfold this is to unfold every definition above.
unfoldable pub calls_compute : Unit {0}
unfolding readers_compute tables_compute call_checks call_table with_stream with_clock add_row with_row with_row_line cleared effect next replay fresh after grant_table with_grant next_catalogue caller_table with_caller nobody
calls_compute = tt
