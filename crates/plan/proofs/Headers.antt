-- The columns of a stream and of a join's sides, as orders.
use mathlib.Core.Path.{◌≡◌, refl, sym, ap, ap₂, ◌∙◌}
use mathlib.Core.List.{List, ◌++◌, map, map-append, map-map}
use Prim.Native.Nat.{ℕ, ◌+◌, ◌*◌, ◌/◌, ◌%◌, ◌≤◌, ◌<◌}
use native.Mathlib.Omega.{arith}
use borrow.Author.Tests.{lt-ltb}
use lib.Dec.{T, ltb}
use lib.ListN.{length, length-map}
use Rattle.lists.specs.Lists.{count_from}
use Rattle.lists.proofs.Laws.{true_T}
use Rattle.lists.proofs.Counting.{map_alike, map_length, every_map}
use Rattle.model.specs.Queries.{Col, col, columns_of}
use Rattle.schema.specs.Schemas.{streams_in, width_in, schema_of}
use Rattle.schema.proofs.Soundness.{width_most}
use Rattle.schema.proofs.Tests.{streams_most}
use Rattle.schema.proofs.Lookups.{stream_columns}
use Rattle.orders.specs.Orders.{order_end, codes_in, order_from}
use Rattle.orders.proofs.Codes.{codes_fit, small_codes, codes_of, codes_from}
use Rattle.query.specs.Forms.{coded_col, cols_in}
use Rattle.plan.specs.Plans.{stream_order}

-- ---- the columns of a stream

module _ (ns : List ℕ) (s : ℕ) (h : s < streams_in ns) where
  abbrev codes : List ℕ
  codes = map (λ c. s * 6 + c) (count_from 0 (width_in ns s))

  few : length codes ≤ 6
  few = rw (map_length (λ c. s * 6 + c) 0 (width_in ns s)) (width_most ns s)

  fit : T (codes_fit codes)
  fit = every_map (λ c. ltb c 31) (λ c. s * 6 + c) 0 (width_in ns s) (λ i a b. true_T (ltb (s * 6 + i) 31) (lt-ltb (s * 6 + i) 31 (omega (arith, width_most ns s, streams_most ns, h))))

  decoded : (c : ℕ) → c < 6 → coded_col (s * 6 + c) ≡ col s c
  unfolding coded_col
  decoded c l =
      let q : (s * 6 + c) / 6 ≡ s = omega arith in
      let r : (s * 6 + c) % 6 ≡ c = omega arith in
      rw (lt-ltb (s * 6 + c) 24 (omega (arith, streams_most ns, h)), q, r) refl

  pub stream_header : columns_of (schema_of ns) s ≡ cols_in (stream_order ns s)
  unfolding cols_in stream_order
  stream_header =
      stream_columns ns s h
      ∙ (sym (map_alike (λ i. coded_col (s * 6 + i)) (col s) 0 (width_in ns s) (λ i a b. decoded i (omega (arith, width_most ns s))))
      ∙ (sym (map-map coded_col (λ c. s * 6 + c) (count_from 0 (width_in ns s)))
      ∙ sym (ap (map coded_col) (codes_of codes (omega (arith, few)) fit))))

-- ---- the columns of two sides

pub joined_header : (a b : ℕ) (ls rs : List Col) → a < order_end → ls ≡ cols_in a → rs ≡ cols_in b → length ls ≤ 6 → length rs ≤ 6 → ls ++ rs ≡ cols_in (order_from a (codes_in b))
unfolding cols_in
joined_header a b ls rs h e f m n =
    let la : length (codes_in a) ≤ 6 = rw (sym (ap length e ∙ length-map (codes_in a) coded_col)) m in
    let lb : length (codes_in b) ≤ 6 = rw (sym (ap length f ∙ length-map (codes_in b) coded_col)) n in
    ap₂ ◌++◌ e f ∙ (sym (map-append coded_col (codes_in a) (codes_in b)) ∙ sym (ap (map coded_col) (codes_from a (codes_in b) h (omega (arith, la, lb)) (small_codes b))))
