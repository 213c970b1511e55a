-- The row call's table is what the code shows of it.
use mathlib.Core.Path.{◌≡◌, refl, ap, ◌∙◌}
use mathlib.Core.List.{List, [], map}
use mathlib.Core.Bool.{Bool, true, false, not, cond}
use mathlib.Core.Option.{none, some}
use Prim.Native.Nat.{ℕ, ◌<◌}
use native.Mathlib.Nat.{zero-add}
use lib.IntN.{ℤ}
use lib.Dec.{T, leb, eqb}
use lib.ListN.{length}
use borrow.Author.Tests.{leb-false}
use Rattle.refusal.specs.Results.{Said, result_of}
use Rattle.refusal.specs.Checks.{refuse, first, passes, table, no_fault}
use Rattle.refusal.specs.declared.Checks.{Checks}
use Rattle.refusal.specs.declared.Refusal.TheVariants.{Lent, Undeclared, Misplaced, StreamFull}
use Rattle.refusal.proofs.Passing.{pass_rest, pass_test, first_passes}
use Rattle.lists.specs.Lists.{every, nth, count_from}
use Rattle.lists.proofs.Laws.{T_true}
use Rattle.lists.proofs.Counting.{map_length, nth_map}
use Rattle.syntax.specs.Limits.{is_value, max_rows}
use Rattle.model.specs.Queries.{Row}
use Rattle.calls.specs.Names.{columns_named}
use Rattle.calls.specs.Tables.{row_checks}
use Rattle.schema.specs.Schemas.{streams_in, width_in, schema_of}
use Rattle.schema.proofs.Lookups.{length_schema, length_columns}
use Rattle.ledger.specs.Records.{Memory, count_in, rows_in, record_of, memory_sound}
use Rattle.ledger.specs.Calls.{row_shown, row_table, Enters, RowCall}
use Rattle.ledger.proofs.Entering.{RowFits, row_fits}

-- ---- the rows of a stream

pub rows_at : (m : Memory) (s : ℕ) → s < streams_in m.names → nth [] (map (rows_in m) (count_from 0 (streams_in m.names))) s ≡ rows_in m s
rows_at m s h = rw (zero-add s) at (nth_map [] (rows_in m) 0 (streams_in m.names) s h)

pub length_rows : (m : Memory) (s : ℕ) → length (rows_in m s) ≡ count_in m.ledger s
unfolding rows_in
length_rows m s = map_length _ 0 (count_in m.ledger s)

-- ---- the row call

-- Each value that is lent is one: check 3 holds off.
pub row_told : (m : Memory) (s : ℕ) (vs : List ℤ) → T (every is_value vs) → result_of (first (table (row_shown m s (length vs) no_fault))) ≡ result_of (first (row_table m s vs))
unfolding row_shown row_table row_checks table first refuse record_of
row_told m s vs v = rw (T_true (every is_value vs) v, length_schema m.names) (go (memory_sound m) (leb (streams_in m.names) s) refl)
  where
    width : ℕ
    width = length (columns_named (schema_of m.names) s)

    rows : List Row
    rows = nth [] (map (rows_in m) (count_from 0 (streams_in m.names))) s

    go : (a b : Bool) → leb (streams_in m.names) s ≡ b
        → result_of (cond (not a) (some Lent) (cond b (some Undeclared) (cond (not (eqb (length vs) (width_in m.names s))) (some Misplaced) (cond (leb max_rows (count_in m.ledger s)) (some StreamFull) none))))
        ≡ result_of (cond (not a) (some Lent) (cond b (some Undeclared) (cond (not (eqb (length vs) width)) (some Misplaced) (cond (leb max_rows (length rows)) (some StreamFull) none))))
    go false b e = refl
    go true true e = refl
    go true false e = let h = leb-false (streams_in m.names) s e in rw (length_columns m.names s h, rows_at m s h, length_rows m s)

-- what a row call that passes its table shows
pub row_accepted : (m : Memory) (s : ℕ) (vs : List ℤ) → T (passes (row_table m s vs)) → RowFits m s (length vs) × T (every is_value vs)
unfolding row_table row_checks
row_accepted m s vs t =
    let v = pass_test _ (every is_value vs) _ (pass_rest _ (not (memory_sound m)) _ t) in
    (row_fits m s (length vs) no_fault (row_told m s vs v ∙ ap result_of (first_passes (row_table m s vs) t)), v)

pub row_called : {m m' : Memory} {s : ℕ} {vs : List ℤ} {k : Checks} {v : Said} → T (every is_value vs) → k ≡ no_fault → Enters m s vs k m' v → RowCall m s vs m' v
row_called {m} {s} {vs} h n e = record { said = rw n at e.said ∙ row_told m s vs h; left = e.left }
