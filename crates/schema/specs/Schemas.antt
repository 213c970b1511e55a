-- The declared streams that lent numbers stand for, and whether they may be lent.
use Rattle.std.specs.Prelude.{List, map, Bool, ◌&&◌, ◌||◌, not, cond, ℕ, zero, suc, ◌+◌, ◌*◌, ◌-◌, leb, ltb, eqb, length, get_or, set}
use Rattle.std.proofs.Math.Seq.{paste}
use Rattle.lists.specs.Lists.{every, some?, count_from}
use Rattle.syntax.specs.Grammar.{Bytes, Stream}
use Rattle.syntax.specs.Limits.{max_streams, max_columns}
use Rattle.model.specs.Queries.{Schema}
use Rattle.calls.specs.Validity.{free_name}
use Rattle.text.specs.Words.{name_of}

-- four names of streams, then six of columns for each
abbrev pub schema_size : ℕ
schema_size = max_streams + max_streams * max_columns

-- where the columns of a stream stand
abbrev pub column_place : ℕ → ℕ
column_place s = max_streams + s * max_columns

-- how many of n numbers from a place on are not 0, up to the first that is
unfoldable pub filled : List ℕ → ℕ → ℕ → ℕ
filled ns at zero = 0
filled ns at (suc n) = cond (eqb (get_or ns at 0) 0) 0 (suc (filled ns (suc at) n))

-- ---- the streams that they stand for, whatever they hold

unfoldable pub streams_in : List ℕ → ℕ
streams_in ns = filled ns 0 max_streams

unfoldable pub width_in : List ℕ → ℕ → ℕ
width_in ns s = cond (ltb s max_streams) (filled ns (column_place s) max_columns) 0

unfoldable pub column_in : List ℕ → ℕ → ℕ → Bytes
column_in ns s c = name_of (get_or ns (column_place s + c) 0)

unfoldable pub stream_in : List ℕ → ℕ → Stream
stream_in ns s = record { name = name_of (get_or ns s 0); columns = map (column_in ns s) (count_from 0 (width_in ns s)) }

unfoldable pub schema_of : List ℕ → Schema
schema_of ns = map (stream_in ns) (count_from 0 (streams_in ns))

-- ---- refusal 12

-- one past the highest number of eight bytes
abbrev pub code_end : ℕ
code_end = 18446744073709551616

-- a number that is a name's, which a stream or a column may have
unfoldable pub code_free : ℕ → Bool
code_free n = ltb n code_end && free_name (name_of n)

-- n numbers from a place on are all 0
unfoldable pub zeros : List ℕ → ℕ → ℕ → Bool
zeros ns at n = every (λ i. eqb (get_or ns i 0) 0) (count_from at n)

-- a number is one of n from a place on
unfoldable pub stands : List ℕ → ℕ → ℕ → ℕ → Bool
stands ns at n code = some? (λ i. eqb (get_or ns i 0) code) (count_from at n)

-- n numbers from a place on are names that streams and columns may have, and none stands twice
unfoldable pub named_from : List ℕ → ℕ → ℕ → Bool
named_from ns at n = every (λ i. code_free (get_or ns (at + i) 0) && not (stands ns at i (get_or ns (at + i) 0))) (count_from 0 n)

-- of n declared streams: a declared one has columns, another none, and no number stands after the last
unfoldable pub stream_sound : List ℕ → ℕ → ℕ → Bool
stream_sound ns s n =
    zeros ns (column_place s + filled ns (column_place s) max_columns) (max_columns - filled ns (column_place s) max_columns)
    && cond (leb n s) (eqb (filled ns (column_place s) max_columns) 0)
    (not (eqb (filled ns (column_place s) max_columns) 0) && named_from ns (column_place s) (filled ns (column_place s) max_columns))

-- every stream's columns, of n declared streams
unfoldable pub streams_sound : List ℕ → ℕ → Bool
streams_sound ns n = every (λ s. stream_sound ns s n) (count_from 0 max_streams)

-- numbers enough, names that may be, and no number after the last name of a group
unfoldable pub schema_sound : List ℕ → Bool
schema_sound ns =
    leb schema_size (length ns) && zeros ns (streams_in ns) (max_streams - streams_in ns) && named_from ns 0 (streams_in ns)
    && streams_sound ns (streams_in ns)

-- ---- the same by the schema that they stand for

-- a group of at most n names from a place on: numbers of eight bytes, and none after the last name
unfoldable pub group_tidy : List ℕ → ℕ → ℕ → Bool
group_tidy ns at n = every (λ i. ltb (get_or ns i 0) code_end) (count_from at n) && zeros ns (at + filled ns at n) (n - filled ns at n)

-- no stream that is not declared has columns
unfoldable pub columns_tidy : List ℕ → ℕ → Bool
columns_tidy ns s = group_tidy ns (column_place s) max_columns && (ltb s (streams_in ns) || eqb (filled ns (column_place s) max_columns) 0)

-- numbers enough, each group of names in order: names may be lent where they are tidy and stand for a valid schema
unfoldable pub tidy : List ℕ → Bool
tidy ns = leb schema_size (length ns) && group_tidy ns 0 max_streams && every (columns_tidy ns) (count_from 0 max_streams)

-- ---- one stream more

-- its name and its columns' in the places of the next stream, where there are such places
unfoldable pub with_codes : List ℕ → ℕ → List ℕ → List ℕ
with_codes ns n cs =
    cond (ltb (streams_in ns) max_streams && leb schema_size (length ns)) (paste (set ns (streams_in ns) n) (column_place (streams_in ns)) cs max_columns) ns
