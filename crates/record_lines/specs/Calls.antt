-- What the `clock`, `row` and `clear` lines say and leave: the whole table of each, and every place that is lent.
use Rattle.std.specs.Prelude.{◌≡◌, List, [], ◌∷◌, not, ℤ, replicate, Result}
use Rattle.std.proofs.Math.Option.{Option, none, some}
use Rattle.refusal.specs.Results.{Said, result_of, giving, settled}
use Rattle.refusal.specs.Checks.{Check, refuse, first}
use Rattle.refusal.specs.declared.Refusal.TheVariants.{Lent}
use Rattle.refusal.specs.declared.Refused.{Refused}
use Rattle.syntax.specs.Grammar as G
use Rattle.syntax.specs.Grammar.{Bytes}
use Rattle.syntax.specs.Limits.{max_streams, natural}
use Rattle.syntax.specs.Readers.{parse_as}
use Rattle.calls.specs.Names.{stream_number}
use Rattle.calls.specs.Replies.{written}
use Rattle.calls.specs.Tables.{clock_checks, row_line_checks}
use Rattle.schema.specs.Schemas.{schema_of}
use Rattle.ledger.specs.declared.Ledger.{Ledger}
use Rattle.ledger.specs.Records.{Memory, record_of, ledger_sound, memory_sound}
use Rattle.ledger.specs.Calls.{with_row}

-- ---- clock

unfoldable pub clock_line_table : Ledger → Bytes → List Check
clock_line_table l bs = refuse Lent (not (ledger_sound l)) ∷ written 0 bs (parse_as G.clock bs) (clock_checks l.clock)

unfoldable pub with_clock : Ledger → Option ℤ → Ledger
with_clock l none = l
with_clock l (some n) = record { clock = natural n; rows = l.rows }

unfoldable pub clock_line_call : Ledger → Bytes → Result Ledger (Refused Ledger)
clock_line_call l bs = giving (result_of (first (clock_line_table l bs))) (with_clock l (parse_as G.clock bs)) l

-- ---- clear

unfoldable pub clear_line_table : Ledger → Bytes → List Check
clear_line_table l bs = refuse Lent (not (ledger_sound l)) ∷ written 0 bs (parse_as G.clear bs) (λ u. [])

unfoldable pub clear_line_call : Ledger → Bytes → Result Ledger (Refused Ledger)
clear_line_call l bs = giving (result_of (first (clear_line_table l bs))) (record { clock = l.clock; rows = replicate max_streams 0 }) l

-- ---- row

unfoldable pub row_line_table : Memory → Bytes → List Check
row_line_table m bs = refuse Lent (not (memory_sound m)) ∷ written 0 bs (parse_as G.row bs) (row_line_checks (record_of m))

unfoldable pub with_row_line : Memory → Option G.RowLine → Memory
with_row_line m none = m
with_row_line m (some w) = with_row m (stream_number (schema_of m.names) w.name) w.values

pub record RowLineCall (m : Memory) (bs : Bytes) (m' : Memory) (v : Said) : Type 0 where
  pub said : v ≡ result_of (first (row_line_table m bs))
  pub left : m' ≡ settled v m (with_row_line m (parse_as G.row bs))
