-- The record that lent memory stands for, and whether it may be lent.
use Rattle.std.specs.Prelude.{List, map, Bool, ◌&&◌, ℕ, zero, suc, ◌+◌, ◌*◌, ◌-◌, min, ℤ, pos, leb, eqb, length, get_or}
use Rattle.lists.specs.Lists.{every, count_from}
use Rattle.syntax.specs.Limits.{max_streams, max_columns, max_rows, top}
use Rattle.model.specs.Queries.{Row, Record}
use Rattle.schema.specs.Schemas.{streams_in, width_in, schema_of, schema_sound, tidy}
use Rattle.ledger.specs.declared.Ledger.{Ledger}

-- what goes from call to call: the ledger, and what is lent beside it: the names of the streams, and the times and values of rows
pub record Memory : Type 0 where
  pub ledger : Ledger
  pub names : List ℕ
  pub times : List ℕ
  pub values : List ℤ

-- the same with another ledger
abbrev pub with_ledger : Memory → Ledger → Memory
with_ledger m l = record { ledger = l; names = m.names; times = m.times; values = m.values }

-- and with other names
abbrev pub with_names : Memory → List ℕ → Memory
with_names m ns = record { ledger = m.ledger; names = ns; times = m.times; values = m.values }

-- each stream has 128 places, each place one time and six values
abbrev pub places_size : ℕ
places_size = max_streams * max_rows

abbrev pub values_size : ℕ
values_size = places_size * max_columns

-- ---- the record that it stands for, whatever it holds

unfoldable pub row_in : List ℕ → List ℤ → ℕ → ℕ → Row
row_in times values width at = record { at = get_or times at 0; values = map (λ c. get_or values (at * max_columns + c) (pos 0)) (count_from 0 width) }

unfoldable pub count_in : Ledger → ℕ → ℕ
count_in l s = min (get_or l.rows s 0) max_rows

unfoldable pub rows_in : Memory → ℕ → List Row
rows_in m s = map (λ r. row_in m.times m.values (width_in m.names s) (s * max_rows + r)) (count_from 0 (count_in m.ledger s))

unfoldable pub record_of : Memory → Record
record_of m = record { clock = m.ledger.clock; schema = schema_of m.names; rows = map (rows_in m) (count_from 0 (streams_in m.names)) }

-- ---- refusal 12

unfoldable pub ledger_sound : Ledger → Bool
ledger_sound l = leb l.clock top && every (λ n. leb n max_rows) l.rows

-- streams that are not declared have no rows
unfoldable pub undeclared_empty : Ledger → ℕ → Bool
undeclared_empty l n = every (λ s. eqb (get_or l.rows s 0) 0) (count_from n (max_streams - n))

-- the times of n places from one on: none is below the one before it, and the last is not past the clock
unfoldable pub times_steady : List ℕ → ℕ → ℕ → ℕ → ℕ → Bool
times_steady times low end at zero = leb low end
times_steady times low end at (suc n) = leb low (get_or times at 0) && times_steady times (get_or times at 0) end (suc at) n

unfoldable pub stream_steady : Ledger → List ℕ → ℕ → Bool
stream_steady l times s = times_steady times 0 l.clock (s * max_rows) (count_in l s)

-- the first n streams
unfoldable pub streams_steady : Ledger → ℕ → List ℕ → Bool
streams_steady l n times = every (stream_steady l times) (count_from 0 n)

-- the rows lent with a ledger: memory enough, no rows of streams that are not declared, times neither falling nor past the clock
unfoldable pub rows_sound : Memory → Bool
rows_sound m =
    ledger_sound m.ledger && leb places_size (length m.times) && leb values_size (length m.values)
    && undeclared_empty m.ledger (streams_in m.names) && streams_steady m.ledger (streams_in m.names) m.times

unfoldable pub memory_sound : Memory → Bool
memory_sound m = schema_sound m.names && rows_sound m

-- ---- the same by the record that it stands for: memory enough, nothing where nothing may stand, and a valid record

unfoldable pub memory_tidy : Memory → Bool
memory_tidy m =
    tidy m.names && every (λ n. leb n max_rows) m.ledger.rows && leb places_size (length m.times) && leb values_size (length m.values)
    && undeclared_empty m.ledger (streams_in m.names)
