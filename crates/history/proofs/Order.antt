-- The whole table of each call that the code has stands in the order of the refusals.
use mathlib.Core.List.{List}
use Prim.Native.Nat.{ℕ}
use lib.IntN.{ℤ}
use Rattle.refusal.specs.Checks.{Ordered, checks_compute}
use Rattle.syntax.specs.Grammar as G
use Rattle.syntax.specs.Grammar.{Bytes}
use Rattle.syntax.specs.Readers.{parse_as}
use Rattle.calls.specs.Tables.{stream_checks, clock_checks, row_checks, row_line_checks}
use Rattle.calls.specs.Calls.{caller_table}
use Rattle.calls.proofs.Order as O
use Rattle.calls.proofs.Order.{written_ordered}
use Rattle.model.specs.Queries.{Grant}
use Rattle.grant_line.specs.Granting.{grant_table}
use Rattle.grant_line.proofs.Steps.{table_ordered}
use Rattle.stream_line.specs.Declaring.{declare_table}
use Rattle.ledger.specs.declared.Ledger.{Ledger}
use Rattle.ledger.specs.Records.{Memory}
use Rattle.ledger.specs.Calls.{clock_table, clear_table, row_table}
use Rattle.record_lines.specs.Calls.{clock_line_table, clear_line_table, row_line_table}

pub declare_ordered : (ns : List ℕ) (bs : Bytes) → Ordered (declare_table ns bs)
unfolding declare_table stream_checks checks_compute
declare_ordered ns bs = written_ordered 0 bs (parse_as G.stream bs) _ (λ s. tt)

pub clock_ordered : (l : Ledger) (t : ℤ) → Ordered (clock_table l t)
unfolding clock_table clock_checks checks_compute
clock_ordered l t = tt

pub row_ordered : (m : Memory) (s : ℕ) (vs : List ℤ) → Ordered (row_table m s vs)
unfolding row_table row_checks checks_compute
row_ordered m s vs = tt

pub clear_ordered : (l : Ledger) → Ordered (clear_table l)
unfolding clear_table checks_compute
clear_ordered l = tt

pub clock_line_ordered : (l : Ledger) (bs : Bytes) → Ordered (clock_line_table l bs)
unfolding clock_line_table clock_checks checks_compute
clock_line_ordered l bs = written_ordered 0 bs (parse_as G.clock bs) _ (λ n. tt)

pub row_line_ordered : (m : Memory) (bs : Bytes) → Ordered (row_line_table m bs)
unfolding row_line_table row_line_checks row_checks checks_compute
row_line_ordered m bs = written_ordered 0 bs (parse_as G.row bs) _ (λ w. tt)

pub clear_line_ordered : (l : Ledger) (bs : Bytes) → Ordered (clear_line_table l bs)
unfolding clear_line_table checks_compute
clear_line_ordered l bs = written_ordered 0 bs (parse_as G.clear bs) _ (λ u. tt)

pub grant_ordered : (ns : List ℕ) (gs : List Grant) (ws : List ℕ) (bs : Bytes) → Ordered (grant_table ns gs ws bs)
grant_ordered = table_ordered

pub caller_ordered : (bs : Bytes) → Ordered (caller_table bs)
caller_ordered = O.caller_ordered
