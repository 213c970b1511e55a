-- The times of rows, as values and within two.
use Rattle.std.specs.Prelude.{List, Bool, ◌&&◌, ◌||◌, cond, ℕ, ◌+◌, ◌*◌, ◌-◌, min, ℤ, pos, leb, eqb, get_or}
use Rattle.std.specs.Int.Signed.{lt_z}
use Rattle.syntax.specs.Limits.{max_columns, max_rows, top}
use Rattle.ledger.specs.Records.{places_size}
use Rattle.grant.specs.Grants.{no_time}

-- columns begin in the first place of a stream
abbrev pub column_end : ℕ
column_end = (places_size - max_rows) * max_columns + max_columns

-- the later of a time, at most the highest, and another
unfoldable pub later_of : ℤ → ℕ → ℤ
later_of low t = cond (lt_z (pos (min t top)) low) low (pos (min t top))

-- for rows whose times stand from a place on
unfoldable pub clocked : ℤ → List ℕ → ℕ → ℕ → ℤ
clocked low ts from i = later_of low (get_or ts (from + i) 0)

-- the last time may be none
unfoldable pub in_span : ℕ → ℕ → ℕ → Bool
in_span low high t = leb low t && (eqb high no_time || leb t high)

unfoldable pub timed : List ℕ → ℕ → ℕ → ℕ → Bool
timed ts low high i = in_span low high (get_or ts i 0)
