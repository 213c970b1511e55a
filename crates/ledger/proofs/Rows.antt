-- One row more: what a store at one place does to the record.
use mathlib.Core.Path.{◌≡◌, sym, ap, ap₂, ◌∙◌}
use mathlib.Core.List.{List, [], ◌∷◌, ◌++◌, map, map-append}
use Prim.Native.Nat.{ℕ, suc, ◌+◌, ◌*◌, ◌<◌, ◌≤◌, min}
use native.Mathlib.Decide.{dec_lt}
use native.Mathlib.Nat.{zero-add}
use native.Mathlib.Omega.{arith}
use lib.IntN.{ℤ, pos}
use lib.ListN.{length, get_or, set}
use lib.Seq.{paste, get_or-set_same, get_or-set_other}
use Rattle.lists.specs.Lists.{count_from}
use Rattle.lists.proofs.Counting.{count_more, map_alike, map_set, map_places}
use Rattle.syntax.specs.Limits.{max_streams, max_columns, max_rows}
use Rattle.model.specs.Queries.{Row}
use Rattle.calls.specs.Calls as C
use Rattle.schema.specs.Schemas.{streams_in, width_in, schema_of}
use Rattle.schema.proofs.Soundness.{width_most}
use Rattle.ledger.specs.Records.{Memory, row_in, count_in, rows_in, record_of}
use Rattle.ledger.specs.Calls.{row_place, with_rows, with_row}
use Rattle.lists.proofs.Pasting.{paste_in, paste_before, paste_after}
use Rattle.ledger.proofs.Entering.{RowFits, row_room}
use Rattle.ledger.proofs.Told.{rows_at}

abbrev pub stamped : ℕ → List ℤ → Row
stamped k vs = record { at = k; values = vs }

-- ---- one place: the time k and the values vs stored at place p

module _ (times : List ℕ) (values : List ℤ) (p k : ℕ) (vs : List ℤ) (inT : p < length times) (inV : p * max_columns + length vs ≤ length values) where
  abbrev times' : List ℕ
  times' = set times p k

  abbrev values' : List ℤ
  values' = paste values (p * max_columns) vs (length vs)

  -- the row that stands there
  row_same : row_in times' values' (length vs) p ≡ stamped k vs
  unfolding row_in
  row_same =
      ap₂ stamped (get_or-set_same times p k 0 inT)
      (map_alike (λ c. get_or values' (p * max_columns + c) (pos 0)) (λ c. get_or vs c (pos 0)) 0 (length vs)
      (λ c l m. paste_in values vs (p * max_columns) (length vs) (pos 0) inV (omega arith) c (omega arith))
      ∙ map_places (pos 0) vs)

  -- and the rows that stand elsewhere
  row_other : (w r : ℕ) → w ≤ max_columns → length vs ≤ max_columns → (r ≡ p → ⊥) → row_in times' values' w r ≡ row_in times values w r
  unfolding row_in
  row_other w r hw hv ne = ap₂ stamped (get_or-set_other times p r k 0 ne) (map_alike (λ c. get_or values' (r * max_columns + c) (pos 0)) (λ c. get_or values (r * max_columns + c) (pos 0)) 0 w (λ c l m. value c (omega arith) (dec_lt r p)))
    where
      value : (c : ℕ) → c < w → Dec (r < p) → get_or values' (r * max_columns + c) (pos 0) ≡ get_or values (r * max_columns + c) (pos 0)
      value c h (yes b) = paste_before values vs (p * max_columns) (length vs) (pos 0) inV (omega arith) (r * max_columns + c) (omega arith)
      value c h (no b) =
          let o : p < r = above (dec_lt p r) in
          paste_after values vs (p * max_columns) (length vs) (pos 0) inV (omega arith) (r * max_columns + c) (omega arith)
        where
          above : Dec (p < r) → p < r
          above (yes a) = a
          above (no a) = absurd (ne (omega arith))

-- ---- one row more of stream s

module _ (m : Memory) (s : ℕ) (vs : List ℤ) (four : length m.ledger.rows ≡ max_streams) (fit : RowFits m s (length vs)) where
  abbrev n : ℕ
  n = count_in m.ledger s

  abbrev p : ℕ
  p = s * max_rows + n

  stored : (w r : ℕ) → w ≤ max_columns → (r ≡ p → ⊥) → row_in (set m.times p m.ledger.clock) (paste m.values (p * max_columns) vs (length vs)) w r ≡ row_in m.times m.values w r
  unfolding row_place
  stored w r h ne = let k = row_room m s (length vs) fit in row_other m.times m.values p m.ledger.clock vs k.time k.values w r h k.short ne

  -- streams besides it
  pub stream_other : (j : ℕ) → (j ≡ s → ⊥) → rows_in (with_row m s vs) j ≡ rows_in m j
  unfolding rows_in count_in with_row with_rows row_place
  stream_other j ne =
      rw (get_or-set_other m.ledger.rows s j (suc n) 0 ne)
      (map_alike _ _ 0 (min (get_or m.ledger.rows j 0) max_rows) (λ r a b. stored (width_in m.names j) (j * max_rows + r) (width_most m.names j) (λ e. let f = fit.space in apart r (omega arith) f e (dec_lt j s) (dec_lt s j))))
    where
      apart : (r : ℕ) → r < max_rows → count_in m.ledger s < max_rows → j * max_rows + r ≡ s * max_rows + count_in m.ledger s → Dec (j < s) → Dec (s < j) → ⊥
      apart r h f e (yes a) b = omega arith
      apart r h f e (no a) (yes b) = omega arith
      apart r h f e (no a) (no b) = ne (omega arith)

  counted : count_in (with_rows m.ledger s) s ≡ suc n
  unfolding count_in with_rows
  counted =
      let h = (row_room m s (length vs) fit).stream in
      let f = fit.space in
      let e = get_or-set_same m.ledger.rows s (suc n) 0 (omega arith) in
      omega arith

  -- and the stream itself
  pub stream_same : rows_in (with_row m s vs) s ≡ rows_in m s ++ (stamped m.ledger.clock vs ∷ [])
  unfolding rows_in with_row row_place
  stream_same =
      let k = row_room m s (length vs) fit in
      ap (λ c. map (row_at) (count_from 0 c)) counted
      ∙ ap (map row_at) (count_more 0 n)
      ∙ map-append row_at (count_from 0 n) ((0 + n) ∷ [])
      ∙ ap₂ (λ rs r. rs ++ (r ∷ []))
      (map_alike row_at _ 0 n (λ r a b. stored (width_in m.names s) (s * max_rows + r) (width_most m.names s) (λ e. omega arith)))
      (rw (zero-add n, ← fit.width) (row_same m.times m.values p m.ledger.clock vs k.time k.values))
    where
      row_at : ℕ → Row
      row_at r = row_in (set m.times p m.ledger.clock) (paste m.values (p * max_columns) vs (length vs)) (width_in m.names s) (s * max_rows + r)

  -- what an accepted row call leaves
  pub row_effect : record_of (with_row m s vs) ≡ C.with_row (record_of m) s vs
  unfolding record_of C.with_row C.add_row with_row with_rows
  row_effect =
      ap (λ (rs : List (List Row)). record { clock = m.ledger.clock; schema = schema_of m.names; rows = rs })
      (map_set (rows_in m) (rows_in (with_row m s vs)) 0 (streams_in m.names) s fit.declared (λ j a b ne. stream_other j (λ e. ne (omega arith)))
      ∙ ap (set (map (rows_in m) (count_from 0 (streams_in m.names))) s)
      (rw (zero-add s) stream_same ∙ ap (λ rs. rs ++ (stamped m.ledger.clock vs ∷ [])) (sym (rows_at m s fit.declared))))
