-- The calls on the record: what goes from call to call, and what each call promises of it.
use Rattle.std.specs.Prelude.{◌≡◌, List, ℕ, ◌≤◌, ℤ, T, eqb, length, Result}
use Rattle.refusal.specs.Results.{Said, said_by, held_after}
use Rattle.refusal.specs.declared.Refused.{Refused}
use Rattle.lists.specs.Lists.{every}
use Rattle.syntax.specs.Grammar.{Bytes}
use Rattle.syntax.specs.Limits.{max_streams}
use Rattle.calls.specs.Calls.{Call, stream, clock, row, clear, clock_line, row_line, clear_line}
use Rattle.calls.specs.Validity.{valid_record}
use Rattle.schema.specs.Schemas.{schema_size}
use Rattle.stream_line.specs.Declaring.{Declares}
use Rattle.ledger.specs.declared.Ledger.{Ledger}
use Rattle.ledger.specs.Records.{Memory, with_ledger, with_names, record_of, places_size, values_size, memory_sound}
use Rattle.ledger.specs.Calls.{begun, clock_call, clear_call, RowCall}
use Rattle.record_lines.specs.Calls.{clock_line_call, clear_line_call, RowLineCall}

-- the ledger, which goes from call to call, and what is lent to each: names, times and values
abbrev pub State : Type 0
State = Memory

-- The contracts of the calls, as the code has them: any text, any time of 64 bits, any row number and values.
pub data Promise : Call → State → State → Type 0 where
  declared : {s : State} {bs : Bytes} {ns : List ℕ} {v : Said} → Declares s.names bs ns v → Promise (stream bs) s (with_names s ns)
  clocked : {s : State} {t : ℤ} {r : Result Ledger (Refused Ledger)} → r ≡ clock_call s.ledger t → Promise (clock t) s (with_ledger s (held_after r))
  rowed : {s t : State} {n : ℕ} {vs : List ℤ} {v : Said} → RowCall s n vs t v → Promise (row n vs) s t
  cleared : {s : State} {r : Result Ledger (Refused Ledger)} → r ≡ clear_call s.ledger → Promise clear s (with_ledger s (held_after r))
  clock_lined : {s : State} {bs : Bytes} {r : Result Ledger (Refused Ledger)} → r ≡ clock_line_call s.ledger bs → Promise (clock_line bs) s (with_ledger s (held_after r))
  row_lined : {s t : State} {bs : Bytes} {v : Said} → RowLineCall s bs t v → Promise (row_line bs) s t
  clear_lined : {s : State} {bs : Bytes} {r : Result Ledger (Refused Ledger)} → r ≡ clear_line_call s.ledger bs → Promise (clear_line bs) s (with_ledger s (held_after r))

-- what a call says
unfoldable pub said_in : {c : Call} {s t : State} → Promise c s t → Said
said_in (declared {v} d) = v
said_in (clocked {r} e) = said_by r
said_in (rowed {v} d) = v
said_in (cleared {r} e) = said_by r
said_in (clock_lined {r} e) = said_by r
said_in (row_lined {v} d) = v
said_in (clear_lined {r} e) = said_by r

-- it has a count for each stream, stands for a valid record, and may be lent
pub record Sound (s : State) : Type 0 where
  pub counts : length s.ledger.rows ≡ max_streams
  pub valid : T (valid_record (record_of s))
  pub lent : T (memory_sound s)

-- a new ledger, names that are all 0, and memory enough, whatever times and values it holds
pub record Fresh (s : State) : Type 0 where
  pub begins : s.ledger ≡ begun
  pub zero : T (every (λ n. eqb n 0) s.names)
  pub long : schema_size ≤ length s.names
  pub places : places_size ≤ length s.times
  pub room : values_size ≤ length s.values
