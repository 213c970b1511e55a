-- What may be lent stands for a valid record; and what is refused though it does.
use mathlib.Core.Path.{◌≡◌, refl, ap, ap₂, ◌∙◌}
use mathlib.Core.List.{List, map}
use mathlib.Core.Bool.{false, Bool, true, ◌&&◌, and-true}
use Prim.Native.Nat.{ℕ, zero, suc, ◌+◌, ◌*◌}
use lib.IntN.{ℤ, pos}
use lib.Dec.{T, leb, eqb, le→leb, leb→le, eqb_refl}
use lib.ListN.{length, get_or}
use Rattle.lists.specs.Lists.{every, count_from}
use Rattle.lists.proofs.Laws.{and_both, parts, T_true, same_truth}
use Rattle.lists.proofs.Counting.{map_length, every_map}
use Rattle.syntax.specs.Limits.{is_value, top, max_columns, max_rows}
use Rattle.calls.specs.Validity.{steady, valid_row, valid_rows, rows_match, valid_record, valid_schema}
use Rattle.text.proofs.Values.{value_at}
use Rattle.schema.specs.Schemas.{streams_in, width_in, column_in, stream_in, schema_of, tidy}
use Rattle.schema.proofs.Valid as S
use Rattle.ledger.specs.Records.{Memory, places_size, values_size, row_in, count_in, rows_in, record_of, ledger_sound, undeclared_empty, stream_steady, streams_steady, memory_sound, memory_tidy}
use Rattle.ledger.proofs.Bounds.{count_le}
use Rattle.ledger.proofs.Soundness.{sound_parts, sound_made}
use Rattle.ledger.proofs.Told.{length_rows}
use Rattle.ledger.proofs.Kept.{steady_rows}

-- ---- the rows of the record: only their times can be wrong

row_valid : (times : List ℕ) (values : List ℤ) (w p : ℕ) → T (every is_value values) → T (valid_row w (row_in times values w p))
unfolding valid_row row_in
row_valid times values w p v =
    and_both (eqb (length vs) w) (every is_value vs) (rw (map_length (λ c. get_or values (p * max_columns + c) (pos 0)) 0 w) (eqb_refl w)) (every_map is_value _ 0 w (λ c a b. value_at values (p * max_columns + c) v))
  where
    vs : List ℤ
    vs = map (λ c. get_or values (p * max_columns + c) (pos 0)) (count_from 0 w)

module _ (m : Memory) (v : T (every is_value m.values)) where
  each_valid : (s : ℕ) → every (valid_row (width_in m.names s)) (rows_in m s) ≡ true
  unfolding rows_in
  each_valid s = T_true (every (valid_row (width_in m.names s)) _) (every_map (valid_row (width_in m.names s)) _ 0 (count_in m.ledger s) (λ r a b. row_valid m.times m.values (width_in m.names s) (s * max_rows + r) v))

  few_rows : (s : ℕ) → leb (length (rows_in m s)) max_rows ≡ true
  few_rows s = rw (length_rows m s) (T_true (leb (count_in m.ledger s) max_rows) (le→leb (count_in m.ledger s) max_rows (count_le m.ledger s)))

  wide : (s : ℕ) → length (stream_in m.names s).columns ≡ width_in m.names s
  unfolding stream_in
  wide s = map_length (column_in m.names s) 0 (width_in m.names s)

  rows_valid : (s : ℕ) → valid_rows m.ledger.clock (length (stream_in m.names s).columns) (rows_in m s) ≡ stream_steady m.ledger m.times s
  unfolding valid_rows
  rows_valid s = rw (wide s, few_rows s, each_valid s) (and-true (steady 0 m.ledger.clock (rows_in m s)) ∙ steady_rows m s)

  matched : (a n : ℕ) → rows_match m.ledger.clock (map (stream_in m.names) (count_from a n)) (map (rows_in m) (count_from a n)) ≡ every (stream_steady m.ledger m.times) (count_from a n)
  unfolding rows_match count_from every
  matched a zero = refl
  matched a (suc n) = ap₂ ◌&&◌ (rows_valid a) (matched (suc a) n)

  -- the record is valid where its clock, its streams and the times of its rows are
  pub valid_tests : valid_record (record_of m) ≡ (leb m.ledger.clock top && valid_schema (schema_of m.names) && streams_steady m.ledger (streams_in m.names) m.times)
  unfolding valid_record record_of schema_of streams_steady
  valid_tests = ap (λ b. leb m.ledger.clock top && valid_schema (map (stream_in m.names) (count_from 0 (streams_in m.names))) && b) (matched 0 (streams_in m.names))

-- ---- what may be lent

five : (a b c d e : Bool) → T a → T b → T c → T d → T e → T (a && b && c && d && e)
five true true true true true p q r s t = tt
five false b c d e p q r s t = elim p [ ]
five true false c d e p q r s t = elim q [ ]
five true true false d e p q r s t = elim r [ ]
five true true true false e p q r s t = elim s [ ]
five true true true true false p q r s t = elim t [ ]

three : (a b c : Bool) → T a → T b → T c → T (a && b && c)
three true true true p q r = tt
three false b c p q r = elim p [ ]
three true false c p q r = elim q [ ]
three true true false p q r = elim r [ ]

module _ (m : Memory) (v : T (every is_value m.values)) where
  pub sound_valid : T (memory_sound m) → T (valid_record (record_of m))
  unfolding ledger_sound
  sound_valid t =
      let p = sound_parts m t in
      let b = p.bounds in
      rw (valid_tests m v) (three (leb m.ledger.clock top) (valid_schema (schema_of m.names)) (streams_steady m.ledger (streams_in m.names) m.times) (search parts) (S.sound_valid m.names p.names) p.tested)

  sound_tidy : T (memory_sound m) → T (memory_tidy m)
  unfolding ledger_sound memory_tidy
  sound_tidy t =
      let p = sound_parts m t in
      let b = p.bounds in
      five (tidy m.names) (every (λ n. leb n max_rows) m.ledger.rows) (leb places_size (length m.times)) (leb values_size (length m.values)) (undeclared_empty m.ledger (streams_in m.names))
      (S.sound_tidy m.names p.names) (search parts) (le→leb places_size (length m.times) p.places) (le→leb values_size (length m.values) p.room) p.unused

  pub valid_sound : T (memory_tidy m) → T (valid_record (record_of m)) → T (memory_sound m)
  unfolding ledger_sound memory_tidy
  valid_sound t w =
      let u = rw (valid_tests m v) at w in
      sound_made m (record {
        names = S.valid_sound m.names (search parts depth 8) (search parts depth 8);
        bounds = and_both (leb m.ledger.clock top) (every (λ n. leb n max_rows) m.ledger.rows) (search parts depth 8) (search parts depth 8);
        places = leb→le places_size (length m.times) (search parts depth 8);
        room = leb→le values_size (length m.values) (search parts depth 8);
        unused = search parts depth 8;
        tested = search parts depth 8;
      })

  -- Memory may be lent where it is tidy and the record that it stands for is valid. What is refused by 12 though that record is valid: memory too short, a name after a gap or
  -- a column of a stream that is not declared, a count above 128, and rows of a stream that is not declared. The record leaves these out, so that it is one for any memory;
  -- but a stream declared later would begin with such names and rows, and a row of a short memory would have no place. No call and no line leaves memory so.
  pub sound_is : memory_sound m ≡ (memory_tidy m && valid_record (record_of m))
  sound_is =
      same_truth (memory_sound m) (memory_tidy m && valid_record (record_of m))
      (λ t. and_both (memory_tidy m) (valid_record (record_of m)) (sound_tidy t) (sound_valid t))
      (λ t. valid_sound (search parts) (search parts))
