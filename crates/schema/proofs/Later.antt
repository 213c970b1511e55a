-- Names in which every stream of others stands as it stood.
use mathlib.Core.Path.{◌≡◌, refl, sym, ap, ◌∙◌}
use mathlib.Core.List.{List, [], ◌∷◌, ◌++◌, map}
use Prim.Native.Nat.{ℕ, suc, ◌<◌, ◌≤◌}
use native.Mathlib.Omega.{arith}
use lib.ListN.{length, length-append}
use Rattle.lists.specs.Lists.{nth, count_from}
use Rattle.lists.proofs.Laws.{nth_before}
use Rattle.lists.proofs.Counting.{map_length}
use Rattle.model.specs.Queries.{Stream, Schema, no_stream, col, columns_of}
use Rattle.schema.specs.Schemas.{streams_in, width_in, column_in, stream_in, schema_of}
use Rattle.schema.proofs.Lookups.{length_schema, stream_is, stream_columns}

pub record Later (ns ns' : List ℕ) : Type 0 where
  pub more : streams_in ns ≤ streams_in ns'
  pub kept : (s : ℕ) → s < streams_in ns → stream_in ns' s ≡ stream_in ns s

pub same_later : (ns : List ℕ) → Later ns ns
same_later ns = record { more = omega arith; kept = λ i h. refl }

module _ {ns ns' : List ℕ} (later : Later ns ns') where
  pub width_later : (s : ℕ) → s < streams_in ns → width_in ns' s ≡ width_in ns s
  unfolding stream_in
  width_later s h = sym (map_length (column_in ns' s) 0 (width_in ns' s)) ∙ ap (λ t. length t.columns) (later.kept s h) ∙ map_length (column_in ns s) 0 (width_in ns s)

  pub columns_later : (s : ℕ) → s < streams_in ns → columns_of (schema_of ns') s ≡ columns_of (schema_of ns) s
  columns_later s h =
      let m = later.more in
      stream_columns ns' s (omega arith) ∙ ap (λ w. map (col s) (count_from 0 w)) (width_later s h) ∙ sym (stream_columns ns s h)

-- such are those of a schema with one stream more
module _ (ns ns' : List ℕ) (s : Stream) (e : schema_of ns' ≡ schema_of ns ++ (s ∷ [])) where
  pub one_later : streams_in ns' ≡ suc (streams_in ns)
  one_later = let a = length_schema ns in let b = length_schema ns' in let c = ap length e in let d = length-append (schema_of ns) (s ∷ []) in omega arith

  pub schema_later : Later ns ns'
  schema_later =
      let m = one_later in
      record {
        more = omega arith;
        kept = λ i h.
            let k : i < length (schema_of ns) = (let a = length_schema ns in omega arith) in
            sym (stream_is ns' i (omega arith)) ∙ ap (λ (d : Schema). nth no_stream d i) e ∙ nth_before no_stream (schema_of ns) (s ∷ []) i k ∙ stream_is ns i h;
      }
