-- The forms of a route with an aggregate grant on one stream stand for the route's rewritten query.
use mathlib.Core.Path.{◌≡◌, refl, sym, ap, ◌∙◌}
use mathlib.Core.List.{List, [], ◌∷◌}
use mathlib.Core.Bool.{Bool, true, false, ◌&&◌, not}
use Prim.Native.Nat.{ℕ, ◌+◌, ◌≤◌}
use native.Mathlib.Omega.{arith}
use lib.Dec.{T, eqb}
use lib.ListN.{length, length-append}
use Rattle.lists.proofs.Laws.{and_both, parts, append_nil}
use Rattle.syntax.specs.Limits.{max_forms}
use Rattle.model.specs.Queries as M
use Rattle.model.specs.Queries.{Schema, Col, columns_of, Caller, source, pick, keep, join, aggregate, sources}
use Rattle.model.specs.Checks.{no_aggregate, side, allowed, placed}
use Rattle.model.specs.Routes.{Numbered, bare, seen, single, summed}
use Rattle.model.specs.Rewriting.{defined, expand}
use Rattle.model.proofs.Rewriting.{stream, side_sources}
use Rattle.schema.specs.Schemas.{schema_of}
use Rattle.query.specs.Forms.{Words, aggregate_form, outer, inner, queries_in, query_in}
use Rattle.query.specs.Tables.{table_words, rewritten_forms, rewritten_table}
use Rattle.query.specs.Shapes.{one_query}
use Rattle.query.specs.declared.Form.{Form}
use Rattle.query.proofs.Shapes.{Laid, laid_rows, laid_pick, laid_keep, laid_join, laid_aggregate, form_pick, form_aggregate, one_laid}
use Rattle.query.proofs.Rewritten.{table_forms}
use Rattle.rewrite.specs.declared.Restriction.{Restriction}
use Rattle.rewrite.specs.Rewrites.{seen_forms, side_stream, sum_forms}
use Rattle.rewrite.specs.Routed.{over_sum, Stands}
use Rattle.rewrite.proofs.SideBySide.{seen_stands}
use Rattle.rewrite.proofs.OnPair.{side_bare, side_free, stream_rows}

-- ---- one stream

-- what an aggregate of one stream is taken of
one_side : (hs : ℕ → List Col) (q : M.Query ℕ) → T (no_aggregate q) → T (allowed hs q) → length (sources q) ≡ 1 → T (side q)
unfolding no_aggregate allowed sources side
one_side hs (source s) h t e = tt
one_side hs (pick c q) h t e = one_side hs q h (search parts) e
one_side hs (keep cs q) h t e = one_side hs q h (search parts) e
one_side hs (join x y q r) h t e =
    let i = ap length (side_sources q (search parts)) in
    let j = ap length (side_sources r (search parts)) in
    let k = length-append (sources q) (sources r) in
    absurd (omega arith)
one_side hs (aggregate f c size offset q) h t e = absurd h

summed_one : (d : Schema) (n : Numbered) (q : M.Query ℕ) → T (side q) → summed d q n ≡ seen (source (stream q)) n
unfolding summed single seen bare
summed_one d n q h = rw (side_sources q h, side_bare q h)

pub not_free : (b : Bool) → T b → T (not b) → ⊥
not_free true t u = u
not_free false t u = t

-- ---- forms above, by their kind

module _ (ns : List ℕ) (g : Restriction) (f : Form) (fs : List Form) where
  pub sum_same : {k : ℕ} → f.kind ≡ k → eqb k aggregate_form ≡ false → sum_forms ns g (f ∷ fs) ≡ f ∷ sum_forms ns g fs
  unfolding sum_forms
  sum_same e i = rw (ap (λ (k : ℕ). eqb k 4) e ∙ i)

  pub sum_seen : f.kind ≡ aggregate_form → sum_forms ns g (f ∷ fs) ≡ f ∷ seen_forms ns g (side_stream fs)
  unfolding sum_forms
  sum_seen e = rw (ap (λ (k : ℕ). eqb k 4) e)

module _ (ns : List ℕ) (w : Words) (who : Caller) (same : who.profile ≡ w.profile) (g : Restriction) (n : Numbered) (a : Stands ns w g n.grant) where
  abbrev d : Schema
  d = schema_of ns

  stream_stands : {q : M.Query ℕ} {fs : List Form} → Laid w q fs → T (side q) → n.grant.of ≡ sources q → queries_in w (seen_forms ns g (side_stream fs)) ≡ expand (defined d who) (summed d q n) ∷ []
  unfolding queries_in
  stream_stands {q} {fs} l h o =
      let s : ((side_stream fs).kind ≡ 0) × ((side_stream fs).first ≡ stream q) = rw (append_nil fs) at (stream_rows l h []) in
      let i : n.grant.of ≡ (side_stream fs).first ∷ [] = o ∙ side_sources q h ∙ rw s.1 in
      ap (queries_in w) (sym (append_nil (seen_forms ns g (side_stream fs)))) ∙ seen_stands ns w who same (side_stream fs) s.0 g n a i [] ∙ rw (s.1, summed_one d n q h)

  pub sum_queries : {q : M.Query ℕ} {fs : List Form} → Laid w q fs → T (allowed (columns_of d) q) → T (not (no_aggregate q)) → n.grant.of ≡ sources q → length (sources q) ≡ 1
      → queries_in w (sum_forms ns g fs) ≡ expand (defined d who) (over_sum d q n) ∷ []
  unfolding allowed no_aggregate sources over_sum expand queries_in outer inner
  sum_queries (laid_rows f e) t u o z = absurd u
  sum_queries (laid_pick f {fs} e l) t u o z = ap (queries_in w) (sum_same ns g f fs e refl) ∙ form_pick w f (queries_in w (sum_forms ns g fs)) e ∙ rw (sum_queries l (search parts) u o z)
  sum_queries (laid_keep f {q} e l) t u o z = absurd (not_free (no_aggregate q) (search parts) u)
  sum_queries (laid_join f {q} {r} e l m) t u o z =
      absurd (not_free (no_aggregate q && no_aggregate r) (and_both (no_aggregate q) (no_aggregate r) (side_free q (search parts)) (side_free r (search parts))) u)
  sum_queries (laid_aggregate f {q} {fs} e l) t u o z =
      ap (queries_in w) (sum_seen ns g f fs e) ∙ form_aggregate w f (queries_in w (seen_forms ns g (side_stream fs))) e
      ∙ rw (stream_stands l (one_side (columns_of d) q (search parts) (search parts) z) o)

-- ---- how many forms they are

some_forms : {w : Words} {q : M.Query ℕ} {fs : List Form} → Laid w q fs → 1 ≤ length fs
some_forms (laid_rows f e) = omega arith
some_forms (laid_pick f e l) = omega arith
some_forms (laid_keep f e l) = omega arith
some_forms (laid_join f e l m) = omega arith
some_forms (laid_aggregate f e l) = omega arith

pub sum_long : {w : Words} (ns : List ℕ) (g : Restriction) {q : M.Query ℕ} {fs : List Form} → Laid w q fs → (hs : ℕ → List Col) → T (allowed hs q) → T (not (no_aggregate q)) → length (sum_forms ns g fs) ≤ length fs + 2
unfolding allowed no_aggregate seen_forms
sum_long ns g (laid_rows f e) hs t u = absurd u
sum_long ns g (laid_pick f {fs} e l) hs t u = let i = sum_long ns g l hs (search parts) u in rw (sum_same ns g f fs e refl) (omega arith)
sum_long ns g (laid_keep f {q} e l) hs t u = absurd (not_free (no_aggregate q) (search parts) u)
sum_long ns g (laid_join f {q} {r} e l m) hs t u =
    absurd (not_free (no_aggregate q && no_aggregate r) (and_both (no_aggregate q) (no_aggregate r) (side_free q (search parts)) (side_free r (search parts))) u)
sum_long ns g (laid_aggregate f {fs} e l) hs t u = let i = some_forms l in rw (sum_seen ns g f fs e) (omega arith)

-- ---- the rewritten query

module _ (ns : List ℕ) (w : Words) (who : Caller) (same : who.profile ≡ w.profile) (fs : List Form) (one : T (one_query fs)) (few : length fs ≤ max_forms) (placing : T (placed (schema_of ns) (query_in w fs)))
    (summing : T (not (no_aggregate (query_in w fs)))) (g : Restriction) (n : Numbered) (a : Stands ns w g n.grant) (of : n.grant.of ≡ sources (query_in w fs)) (single-stream : length (sources (query_in w fs)) ≡ 1)
    (lent : List ℕ) (room : table_words ≤ length lent) where
  pub on_stream : query_in w (rewritten_forms (rewritten_table lent (sum_forms ns g fs))) ≡ expand (defined (schema_of ns) who) (over_sum (schema_of ns) (query_in w fs) n)
  unfolding placed query_in outer
  on_stream =
      let l = one_laid w fs one in
      let long = sum_long ns g l (columns_of (schema_of ns)) (search parts) summing in
      ap (query_in w) (table_forms lent (sum_forms ns g fs) room (omega arith)) ∙ ap outer (sum_queries ns w who same g n a l (search parts) summing of single-stream)
