-- What the clock, row and clear calls say, and what they leave: every place that is lent, accepted and refused.
use Rattle.std.specs.Prelude.{◌≡◌, List, [], ◌∷◌, ◌||◌, not, ℕ, suc, ◌+◌, ◌*◌, ℤ, leb, ltb, eqb, length, set, replicate, Result, is_none, unwrap_or}
use Rattle.std.proofs.Math.Seq.{paste}
use Rattle.refusal.specs.Results.{Said, result_of, giving, settled}
use Rattle.refusal.specs.Checks.{Check, refuse, first, table}
use Rattle.refusal.specs.declared.Checks.{Checks}
use Rattle.refusal.specs.declared.Refusal.TheVariants.{Lent}
use Rattle.refusal.specs.declared.Refused.{Refused}
use Rattle.syntax.specs.Limits.{max_streams, max_columns, max_rows, natural}
use Rattle.calls.specs.Tables.{clock_checks, row_checks}
use Rattle.text.specs.Words.{Found}
use Rattle.schema.specs.Schemas.{streams_in, width_in}
use Rattle.ledger.specs.declared.Ledger.{Ledger}
use Rattle.ledger.specs.Records.{Memory, record_of, count_in, ledger_sound, memory_sound}

-- a fresh record: clock 0 and no rows
unfoldable pub begun : Ledger
begun = record { clock = 0; rows = replicate max_streams 0 }

-- ---- clock

-- what is wrong with a time, None where a number is none, beside what a line showed before
unfoldable pub clock_shown : Ledger → Found ℕ → Checks → Checks
clock_shown l t c =
    record {
      lent = not (ledger_sound l);
      long = c.long;
      malformed = c.malformed;
      bound = c.bound || is_none t;
      undeclared = c.undeclared;
      repeated = c.repeated;
      misplaced = c.misplaced;
      window = c.window;
      back = ltb (unwrap_or t 0) l.clock;
      full = c.full;
      unrouted = c.unrouted;
      many = c.many;
      room = c.room;
    }

unfoldable pub clocked : Ledger → Found ℕ → Checks → Result Ledger (Refused Ledger)
clocked l t c = giving (result_of (first (table (clock_shown l t c)))) (record { clock = unwrap_or t 0; rows = l.rows }) l

-- the call
unfoldable pub clock_table : Ledger → ℤ → List Check
clock_table l t = refuse Lent (not (ledger_sound l)) ∷ clock_checks l.clock t

unfoldable pub clock_call : Ledger → ℤ → Result Ledger (Refused Ledger)
clock_call l t = giving (result_of (first (clock_table l t))) (record { clock = natural t; rows = l.rows }) l

-- ---- clear

unfoldable pub clear_shown : Ledger → Checks → Checks
clear_shown l c =
    record {
      lent = not (ledger_sound l);
      long = c.long;
      malformed = c.malformed;
      bound = c.bound;
      undeclared = c.undeclared;
      repeated = c.repeated;
      misplaced = c.misplaced;
      window = c.window;
      back = c.back;
      full = c.full;
      unrouted = c.unrouted;
      many = c.many;
      room = c.room;
    }

unfoldable pub cleared : Ledger → Checks → Result Ledger (Refused Ledger)
cleared l c = giving (result_of (first (table (clear_shown l c)))) (record { clock = l.clock; rows = replicate max_streams 0 }) l

-- the call
unfoldable pub clear_table : Ledger → List Check
clear_table l = refuse Lent (not (ledger_sound l)) ∷ []

unfoldable pub clear_call : Ledger → Result Ledger (Refused Ledger)
clear_call l = giving (result_of (first (clear_table l))) (record { clock = l.clock; rows = replicate max_streams 0 }) l

-- ---- row

-- a row of n values
unfoldable pub row_shown : Memory → ℕ → ℕ → Checks → Checks
row_shown m s n c =
    record {
      lent = not (memory_sound m);
      long = c.long;
      malformed = c.malformed;
      bound = c.bound;
      undeclared = c.undeclared || leb (streams_in m.names) s;
      repeated = c.repeated;
      misplaced = c.misplaced || not (eqb n (width_in m.names s));
      window = c.window;
      back = c.back;
      full = leb max_rows (count_in m.ledger s);
      unrouted = c.unrouted;
      many = c.many;
      room = c.room;
    }

-- the next place of a stream
unfoldable pub row_place : Ledger → ℕ → ℕ
row_place l s = s * max_rows + count_in l s

unfoldable pub with_rows : Ledger → ℕ → Ledger
with_rows l s = record { clock = l.clock; rows = set l.rows s (suc (count_in l s)) }

-- one row more: its time and its values in the next place of its stream, its count one more, and all else as it was
unfoldable pub with_row : Memory → ℕ → List ℤ → Memory
with_row m s vs =
    record {
      ledger = with_rows m.ledger s;
      names = m.names;
      times = set m.times (row_place m.ledger s) m.ledger.clock;
      values = paste m.values (row_place m.ledger s * max_columns) vs (length vs);
    }

-- what is said, and what all memory holds afterwards
pub record Enters (m : Memory) (s : ℕ) (vs : List ℤ) (c : Checks) (m' : Memory) (v : Said) : Type 0 where
  pub said : v ≡ result_of (first (table (row_shown m s (length vs) c)))
  pub left : m' ≡ settled v m (with_row m s vs)

-- the call
unfoldable pub row_table : Memory → ℕ → List ℤ → List Check
row_table m s vs = refuse Lent (not (memory_sound m)) ∷ row_checks (record_of m) s vs

pub record RowCall (m : Memory) (s : ℕ) (vs : List ℤ) (m' : Memory) (v : Said) : Type 0 where
  pub said : v ≡ result_of (first (row_table m s vs))
  pub left : m' ≡ settled v m (with_row m s vs)

-- the two lists in which a row is stored
pub record Stored (l : Ledger) (s : ℕ) (vs : List ℤ) (times times' : List ℕ) (values values' : List ℤ) : Type 0 where
  pub stamped : times' ≡ set times (row_place l s) l.clock
  pub put : values' ≡ paste values (row_place l s * max_columns) vs (length vs)
