-- A stream more: the record has its stream, with no rows.
use mathlib.Core.Path.{◌≡◌, ap, ap₂, ◌∙◌}
use mathlib.Core.List.{List, [], ◌∷◌, ◌++◌, map, map-append}
use mathlib.Core.Bool.{◌&&◌, ◌||◌, not}
use mathlib.Core.Option.{some}
use Prim.Native.Nat.{ℕ, ◌+◌, ◌*◌, ◌<◌}
use native.Mathlib.Nat.{zero-add}
use native.Mathlib.Omega.{arith}
use lib.Dec.{T, ltb, ltb→lt}
use lib.ListN.{length}
use Rattle.refusal.specs.Checks.{passes}
use Rattle.refusal.proofs.Passing.{pass_first, pass_rest, pass_test}
use Rattle.lists.specs.Lists.{every, count_from, distinct, same_list}
use Rattle.lists.proofs.Laws.{parts, and_l, not_or_l, every_append_r}
use Rattle.lists.proofs.Counting.{count_more, map_alike}
use Rattle.syntax.specs.Grammar as G
use Rattle.syntax.specs.Grammar.{body?}
use Rattle.syntax.specs.Limits.{max_streams, max_rows}
use Rattle.model.specs.Queries.{Stream, Schema, Row}
use Rattle.calls.specs.Bounds.{stream_bounded}
use Rattle.calls.specs.Validity.{valid_stream, valid_schema, valid_record}
use Rattle.calls.specs.Tables.{declared, stream_checks}
use Rattle.calls.specs.Calls as C
use Rattle.calls.proofs.Valid.{stream_valid}
use Rattle.schema.specs.Schemas.{streams_in, schema_of}
use Rattle.schema.proofs.Tests.{streams_most}
use Rattle.schema.proofs.Lookups.{length_schema}
use Rattle.schema.proofs.Later.{one_later, schema_later, width_later}
use Rattle.schema.proofs.Adding.{schema_more, sound_more}
use Rattle.stream_line.specs.Declaring as D
use Rattle.ledger.specs.Records.{Memory, with_names, row_in, count_in, rows_in, record_of, memory_sound}
use Rattle.ledger.proofs.Soundness.{sound_parts}
use Rattle.ledger.proofs.Kept.{undeclared_none, names_sound}
use Rattle.history.specs.States.{State, Sound}

-- what is left of being sound where the record is known to be valid
pub record Held (s : State) : Type 0 where
  pub counts : length s.ledger.rows ≡ max_streams
  pub lent : T (memory_sound s)

module _ (m : Memory) (ns : List ℕ) (s : Stream) (e : schema_of ns ≡ schema_of m.names ++ (s ∷ [])) (ok : T (memory_sound m)) where
  rows_before : (i : ℕ) → i < streams_in m.names → rows_in (with_names m ns) i ≡ rows_in m i
  unfolding rows_in
  rows_before i h = ap (λ w. map (λ r. row_in m.times m.values w (i * max_rows + r)) (count_from 0 (count_in m.ledger i))) (width_later (schema_later m.names ns s e) i h)

  rows_new : rows_in (with_names m ns) (streams_in m.names) ≡ []
  unfolding rows_in count_from
  rows_new =
      let k = one_later m.names ns s e in
      let l = streams_most ns in
      rw (undeclared_none m ok (streams_in m.names) (omega arith) (omega arith))

  record_more : record_of (with_names m ns) ≡ C.with_stream (record_of m) (some s)
  unfolding record_of C.with_stream
  record_more =
      ap₂ (λ (d : Schema) (rs : List (List Row)). record { clock = m.ledger.clock; schema = d; rows = rs }) e
      (ap (λ n. map (rows_in (with_names m ns)) (count_from 0 n)) (one_later m.names ns s e)
      ∙ ap (map (rows_in (with_names m ns))) (count_more 0 (streams_in m.names))
      ∙ map-append (rows_in (with_names m ns)) (count_from 0 (streams_in m.names)) ((0 + streams_in m.names) ∷ [])
      ∙ ap₂ (λ xs x. xs ++ (x ∷ [])) (map_alike (rows_in (with_names m ns)) (rows_in m) 0 (streams_in m.names) (λ i a b. rows_before i (omega arith))) (ap (rows_in (with_names m ns)) (zero-add (streams_in m.names)) ∙ rows_new))

-- ---- what an accepted stream call leaves

module _ (m : State) (ok : Sound m) (s : Stream) (b : T (body? G.stream s)) (p : T (passes (stream_checks (schema_of m.names) s))) where
  few : streams_in m.names < max_streams
  unfolding stream_checks
  few =
      let t = pass_test _ (stream_bounded s && ltb (length (schema_of m.names)) max_streams) _ p in
      let l = ltb→lt (length (schema_of m.names)) max_streams (search parts) in
      let e = length_schema m.names in
      omega arith

  apart : T (not (declared (schema_of m.names) s.name))
  unfolding stream_checks
  apart = not_or_l (declared (schema_of m.names) s.name) (not (distinct same_list s.columns)) (pass_first _ (declared (schema_of m.names) s.name || not (distinct same_list s.columns)) _ (pass_rest _ _ _ p))

  valid : T (valid_stream s)
  unfolding valid_record valid_schema every
  valid =
      let t = stream_valid (record_of m) ok.valid s b (unfold record_of in p) in
      and_l (valid_stream s) _ (every_append_r valid_stream (record_of m).schema (s ∷ []) (search parts depth 8))

  more : schema_of (D.with_stream m.names (some s)) ≡ schema_of m.names ++ (s ∷ [])
  unfolding D.with_stream
  more = schema_more m.names s (sound_parts m ok.lent).names few valid

  pub stream_effect : record_of (with_names m (D.with_stream m.names (some s))) ≡ C.with_stream (record_of m) (some s)
  stream_effect = record_more m (D.with_stream m.names (some s)) s more ok.lent

  pub stream_held : Held (with_names m (D.with_stream m.names (some s)))
  stream_held =
      let k = one_later m.names (D.with_stream m.names (some s)) s more in
      record {
        counts = ok.counts;
        lent = names_sound m (D.with_stream m.names (some s)) (unfold D.with_stream in sound_more m.names s (sound_parts m ok.lent).names few valid apart) (omega arith) ok.lent;
      }
