-- The table of every call stands in the order of the refusals, and only its first check gives 12.
use mathlib.Core.List.{List, []}
use mathlib.Core.Bool.{not}
use mathlib.Core.Option.{Option, none, some}
use Prim.Native.Nat.{ℕ}
use lib.IntN.{ℤ}
use lib.Dec.{T, eqb}
use Rattle.refusal.specs.Checks.{Check, refuse, ordered, Ordered, checks_compute}
use Rattle.refusal.proofs.Verdicts.{never}
use Rattle.lists.specs.Lists.{every}
use Rattle.lists.proofs.Laws.{and_both}
use Rattle.syntax.specs.Grammar as G
use Rattle.syntax.specs.Grammar.{Bytes, Form, RouteLine}
use Rattle.syntax.specs.Readers.{parse_as}
use Rattle.model.specs.Queries.{Schema, Record, Grant, Caller}
use Rattle.calls.specs.Replies.{written}
use Rattle.calls.specs.Tables.{stream_checks, clock_checks, row_checks, row_line_checks, grant_checks, caller_checks, query_checks}
use Rattle.calls.specs.Calls.{Call, stream, clock, row, clear, clock_line, row_line, clear_line, call_checks, call_table, grant_table, caller_table}
use Rattle.calls.specs.Asking.{answer_checks, ask_table, line_checks, line_table}

-- a written line: its length, its form, its brackets, and then what was read from 3 on
pub written_ordered : {A : Type 0} (spare : ℕ) (bs : Bytes) (o : Option A) (checks : A → List Check) → ((a : A) → T (ordered 2 (checks a))) → Ordered (written spare bs o checks)
unfolding written checks_compute
written_ordered spare bs none checks h = tt
written_ordered spare bs (some a) checks h = h a

pub call_ordered : (x : Record) (c : Call) → Ordered (call_table x c)
unfolding call_table call_checks stream_checks clock_checks row_checks row_line_checks checks_compute
call_ordered x (stream bs) = written_ordered 0 bs (parse_as G.stream bs) _ (λ s. tt)
call_ordered x (clock n) = tt
call_ordered x (row s vs) = tt
call_ordered x clear = tt
call_ordered x (clock_line bs) = written_ordered 0 bs (parse_as G.clock bs) _ (λ n. tt)
call_ordered x (row_line bs) = written_ordered 0 bs (parse_as G.row bs) _ (λ w. tt)
call_ordered x (clear_line bs) = written_ordered 0 bs (parse_as G.clear bs) _ (λ u. tt)

pub grant_ordered : (d : Schema) (gs : List Grant) (bs : Bytes) → Ordered (grant_table d gs bs)
unfolding grant_table grant_checks checks_compute
grant_ordered d gs bs = written_ordered 0 bs (parse_as G.grant bs) _ (λ g. tt)

pub caller_ordered : (bs : Bytes) → Ordered (caller_table bs)
unfolding caller_table caller_checks checks_compute
caller_ordered bs = written_ordered 0 bs (parse_as G.caller bs) _ (λ w. tt)

module _ (x : Record) (gs : List Grant) (who : Caller) (spare : ℕ) (bs : Bytes) where
  pub ask_ordered : (q : Option Form) (lent : List ℤ) → Ordered (ask_table x gs who spare bs q lent)
  unfolding ask_table query_checks answer_checks checks_compute
  ask_ordered q lent = written_ordered spare bs q _ (λ f. tt)

  pub line_ordered : (l : Option RouteLine) (lent : Bytes) → Ordered (line_table x gs who spare bs l lent)
  unfolding line_table query_checks line_checks checks_compute
  line_ordered l lent = written_ordered spare bs l _ (λ m. tt)

-- ---- after the first check, no call on the record gives 12

-- a line is refused for its text by 1 and 3 alone
pub never_written : {A : Type 0} (n spare : ℕ) (bs : Bytes) (o : Option A) (checks : A → List Check) → T (not (eqb 1 n)) → T (not (eqb 3 n)) → ((a : A) → T (never n (checks a))) → T (never n (written spare bs o checks))
unfolding every written refuse
never_written n spare bs none checks a b k = and_both (not (eqb 3 n)) _ b (and_both (not (eqb 1 n)) _ a tt)
never_written n spare bs (some l) checks a b k = and_both (not (eqb 3 n)) _ b (and_both (not (eqb 1 n)) _ a (and_both (not (eqb 3 n)) _ b (k l)))

pub call_never : (x : Record) (c : Call) → T (never 12 (call_checks x c))
unfolding call_checks stream_checks clock_checks row_checks row_line_checks refuse every
call_never x (stream bs) = never_written 12 0 bs (parse_as G.stream bs) _ tt tt (λ s. tt)
call_never x (clock n) = tt
call_never x (row s vs) = tt
call_never x clear = tt
call_never x (clock_line bs) = never_written 12 0 bs (parse_as G.clock bs) _ tt tt (λ n. tt)
call_never x (row_line bs) = never_written 12 0 bs (parse_as G.row bs) _ tt tt (λ w. tt)
call_never x (clear_line bs) = never_written 12 0 bs (parse_as G.clear bs) (λ u. []) tt tt (λ u. tt)
