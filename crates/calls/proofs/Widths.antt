-- Every row of a valid record has a value for each column of its stream.
use mathlib.Core.Path.{◌≡◌, sym, ◌∙◌}
use mathlib.Core.List.{List, [], ◌∷◌}
use Prim.Native.Nat.{ℕ, zero, suc}
use lib.Dec.{T, eqb→eq}
use lib.ListN.{length, length-map}
use Rattle.lists.specs.Lists.{nth, count_from}
use Rattle.lists.proofs.Laws.{parts, All, all_nil, all_any, all_weaken, every_all}
use Rattle.lists.proofs.Counting.{count_length}
use Rattle.model.specs.Queries.{Schema, no_stream, col, columns_of, Row, Record}
use Rattle.model.specs.Meaning.{table_of}
use Rattle.model.proofs.Widths.{Wide}
use Rattle.calls.specs.Validity.{valid_row, valid_rows, rows_match, valid_record}

rows_wide : (k : ℕ) (d : Schema) (rss : List (List Row)) → T (rows_match k d rss) → (s : ℕ)
    → All (λ (r : Row). length r.values ≡ length (nth no_stream d s).columns) (nth [] rss s)
unfolding rows_match valid_rows valid_row nth
rows_wide k [] [] h s = all_nil
rows_wide k [] (rs ∷ rss) h s = absurd h
rows_wide k (t ∷ d) [] h s = absurd h
rows_wide k (t ∷ d) (rs ∷ rss) h zero = all_weaken (λ r p. eqb→eq (length r.values) (length t.columns) (search parts)) (every_all (valid_row (length t.columns)) rs (search parts))
rows_wide k (t ∷ d) (rs ∷ rss) h (suc s) = rows_wide k d rss (search parts) s

pub valid_wide : (x : Record) → T (valid_record x) → (s : ℕ) → Wide (table_of x s)
unfolding valid_record table_of columns_of
valid_wide x h s =
    let n = length (nth no_stream x.schema s).columns in
    all_weaken (λ r e. e ∙ sym (length-map (count_from 0 n) (col s) ∙ count_length 0 n)) (rows_wide x.clock x.schema x.rows (search parts) s)

pub sources_wide : (x : Record) → T (valid_record x) → (ss : List ℕ) → All (λ s. Wide (table_of x s)) ss
sources_wide x h ss = all_weaken (λ s u. valid_wide x h s) (all_any ss)
