-- The forms of a route with one grant on the pair stand for the route's rewritten query.
use mathlib.Core.Path.{◌≡◌, refl, sym, ap, ap₂, ◌∙◌}
use mathlib.Core.List.{List, [], ◌∷◌, ◌++◌, map}
use mathlib.Core.Bool.{Bool, true, false}
use Prim.Native.Nat.{ℕ, suc, ◌+◌, ◌≤◌, ◌<◌}
use native.Mathlib.Omega.{arith}
use lib.Dec.{T, eqb, ltb, ltb→lt}
use lib.ListN.{length, length-append, length-map}
use Rattle.lists.specs.Lists.{select, every, gather, distinct}
use Rattle.lists.proofs.Laws.{and_l, and_r, and_both, parts, append_nil}
use Rattle.lists.proofs.Counting.{map_length}
use Rattle.lists.proofs.Gathers.{select_append, select_fewer}
use Rattle.syntax.specs.Grammar.{Cond}
use Rattle.syntax.specs.Limits.{max_forms}
use Rattle.model.specs.Queries as M
use Rattle.model.specs.Queries.{Schema, Col, same_col, columns_of, Compare, Caller, source, pick, keep, join, aggregate, sources, picks, header}
use Rattle.model.specs.Grants.{limits, shown_of}
use Rattle.model.specs.Checks.{within, no_aggregate, side, allowed, placed, keeps}
use Rattle.model.specs.Routes.{Source, Numbered, bare, present, picked_by, columns, keeping, seen, single, over_view, summed}
use Rattle.model.specs.Rewriting.{under, defined, expand}
use Rattle.model.proofs.Columns.{within_by, within_trans, within_both, has_append_l, has_append_r}
use Rattle.model.proofs.Distinct.{columns_distinct, once_few}
use Rattle.model.proofs.Rewriting.{stream, side_sources}
use Rattle.model.proofs.Ways.{header_picks}
use Rattle.schema.specs.Schemas.{streams_in, width_in, schema_of}
use Rattle.schema.proofs.Lookups.{stream_columns}
use Rattle.schema.proofs.Soundness.{width_most}
use Rattle.orders.specs.Orders.{codes_in, order_from, order_within}
use Rattle.orders.proofs.Codes.{codes_from, within_below, small_codes}
use Rattle.nodes.specs.Nodes.{column_in}
use Rattle.query.specs.Forms.{Words, coded_col, cols_in, rows_form, keep_form, keep_of, form_order, join_form, limits_at, outer, inner, with_form, queries_in, query_in}
use Rattle.query.specs.Tables.{table_words, rewritten_forms, rewritten_table}
use Rattle.query.specs.Shapes.{one_query}
use Rattle.query.specs.declared.Form.{Form}
use Rattle.query.proofs.Shapes.{Laid, laid_rows, laid_pick, laid_keep, laid_join, laid_aggregate, form_rows, form_pick, form_join, form_aggregate, one_laid}
use Rattle.query.proofs.Rewritten.{table_forms}
use Rattle.rewrite.specs.declared.Restriction.{Restriction}
use Rattle.rewrite.specs.Rewrites.{under_of, cut_form, shown_order, side_picks, side_stream, side_rest, side_order, pair_order, view_forms, joined_forms, pair_forms}
use Rattle.rewrite.specs.Routed.{over_sum, Stands}
use Rattle.rewrite.proofs.Shown.{present_select, cols_within, declared_all, map_append, order_columns}
use Rattle.rewrite.proofs.SideBySide.{shown_is, grant_low, order_shown, limits_shown, kept, limited}

-- ---- a side

pub side_bare : (q : M.Query ℕ) → T (side q) → bare q ≡ source (stream q)
unfolding side bare stream
side_bare (source s) h = refl
side_bare (pick c q) h = side_bare q h
side_bare (keep cs q) h = side_bare q h
side_bare (join a b q r) h = absurd h
side_bare (aggregate f c size offset q) h = absurd h

pub side_free : (q : M.Query ℕ) → T (side q) → T (no_aggregate q)
unfolding side no_aggregate
side_free (source s) h = tt
side_free (pick c q) h = side_free q h
side_free (keep cs q) h = side_free q h
side_free (join a b q r) h = absurd h
side_free (aggregate f c size offset q) h = absurd h

-- its columns are of its stream
side_within : (d : Schema) (q : M.Query ℕ) → T (side q) → T (allowed (columns_of d) q) → T (within (header (columns_of d) q) (columns_of d (stream q)))
unfolding side allowed header stream
side_within d (source s) h t = within_by (columns_of d s) (columns_of d s) (λ c u. u)
side_within d (pick c q) h t = side_within d q h (search parts)
side_within d (keep cs q) h t = within_trans cs (header (columns_of d) q) (columns_of d (stream q)) (search parts) (side_within d q h (search parts))
side_within d (join a b q r) h t = absurd h
side_within d (aggregate f c size offset q) h t = absurd h

-- and stand once
side_once : (d : Schema) (q : M.Query ℕ) → T (side q) → T (keeps (distinct same_col) q) → T (distinct same_col (header (columns_of d) q))
unfolding side keeps header
side_once d (source s) h t = columns_distinct d s
side_once d (pick c q) h t = side_once d q h t
side_once d (keep cs q) h t = and_l (distinct same_col cs) (keeps (distinct same_col) q) t
side_once d (join a b q r) h t = absurd h
side_once d (aggregate f c size offset q) h t = absurd h

-- the forms of a side
module _ {w : Words} where
  pub stream_rows : {q : M.Query ℕ} {fs : List Form} → Laid w q fs → T (side q) → (gs : List Form) → ((side_stream (fs ++ gs)).kind ≡ rows_form) × ((side_stream (fs ++ gs)).first ≡ stream q)
  unfolding side side_stream stream
  stream_rows (laid_rows f e) h gs = rw (ap (λ (k : ℕ). eqb k 0) e) (e, refl)
  stream_rows (laid_pick f e l) h gs = rw (ap (λ (k : ℕ). eqb k 0) e) (stream_rows l h gs)
  stream_rows (laid_keep f e l) h gs = rw (ap (λ (k : ℕ). eqb k 0) e) (stream_rows l h gs)
  stream_rows (laid_join f e l m) h gs = absurd h
  stream_rows (laid_aggregate f e l) h gs = absurd h

  rest_after : {q : M.Query ℕ} {fs : List Form} → Laid w q fs → T (side q) → (gs : List Form) → side_rest (fs ++ gs) ≡ gs
  unfolding side side_rest
  rest_after (laid_rows f e) h gs = rw (ap (λ (k : ℕ). eqb k 0) e)
  rest_after (laid_pick f e l) h gs = rw (ap (λ (k : ℕ). eqb k 0) e) (rest_after l h gs)
  rest_after (laid_keep f e l) h gs = rw (ap (λ (k : ℕ). eqb k 0) e) (rest_after l h gs)
  rest_after (laid_join f e l m) h gs = absurd h
  rest_after (laid_aggregate f e l) h gs = absurd h

  picks_around : {q : M.Query ℕ} {fs : List Form} → Laid w q fs → T (side q) → (gs xs : List Form) (x : M.Query ℕ) → queries_in w xs ≡ x ∷ [] → queries_in w (side_picks (fs ++ gs) ++ xs) ≡ picked_by (picks q) x ∷ []
  unfolding side side_picks picks picked_by queries_in outer inner
  picks_around (laid_rows f e) h gs xs x i = rw (ap (λ (k : ℕ). eqb k 0) e) i
  picks_around (laid_pick f {fs} e l) h gs xs x i =
      rw (ap (λ (k : ℕ). eqb k 0) e, ap (λ (k : ℕ). eqb k 1) e) (form_pick w f (queries_in w (side_picks (fs ++ gs) ++ xs)) e ∙ rw (picks_around l h gs xs x i))
  picks_around (laid_keep f e l) h gs xs x i = rw (ap (λ (k : ℕ). eqb k 0) e, ap (λ (k : ℕ). eqb k 1) e) (picks_around l h gs xs x i)
  picks_around (laid_join f e l m) h gs xs x i = absurd h
  picks_around (laid_aggregate f e l) h gs xs x i = absurd h

  picks_fewer : {q : M.Query ℕ} {fs : List Form} → Laid w q fs → T (side q) → (gs : List Form) → length (side_picks (fs ++ gs)) < length fs
  unfolding side side_picks
  picks_fewer (laid_rows f e) h gs = rw (ap (λ (k : ℕ). eqb k 0) e) (omega arith)
  picks_fewer (laid_pick f e l) h gs = let i = picks_fewer l h gs in rw (ap (λ (k : ℕ). eqb k 0) e, ap (λ (k : ℕ). eqb k 1) e) (omega arith)
  picks_fewer (laid_keep f e l) h gs = let i = picks_fewer l h gs in rw (ap (λ (k : ℕ). eqb k 0) e, ap (λ (k : ℕ). eqb k 1) e) (omega arith)
  picks_fewer (laid_join f e l m) h gs = absurd h
  picks_fewer (laid_aggregate f e l) h gs = absurd h

  order_header : (ns : List ℕ) {q : M.Query ℕ} {fs : List Form} → Laid w q fs → T (side q) → T (declared_all ns (stream q ∷ [])) → (gs : List Form) → cols_in (side_order ns (fs ++ gs)) ≡ header (columns_of (schema_of ns)) q
  unfolding side side_order stream header gather
  order_header ns (laid_rows f e) h t gs = rw (ap (λ (k : ℕ). eqb k 0) e) (order_columns ns (f.first ∷ []) t (omega arith) ∙ append_nil (columns_of (schema_of ns) f.first))
  order_header ns (laid_pick f e l) h t gs = rw (ap (λ (k : ℕ). eqb k 0) e, ap (λ (k : ℕ). eqb k 2) e) (order_header ns l h t gs)
  order_header ns (laid_keep f e l) h t gs = rw (ap (λ (k : ℕ). eqb k 0) e, ap (λ (k : ℕ). eqb k 2) e)
  order_header ns (laid_join f e l m) h t gs = absurd h
  order_header ns (laid_aggregate f e l) h t gs = absurd h

-- ---- forms above a join, by their kind

module _ (ns : List ℕ) (g : Restriction) (f : Form) (fs : List Form) where
  pub pair_same : {k : ℕ} → f.kind ≡ k → eqb k join_form ≡ false → eqb k keep_form ≡ false → pair_forms ns g (f ∷ fs) ≡ f ∷ pair_forms ns g fs
  unfolding pair_forms cut_form
  pair_same e i j = rw (ap (λ (k : ℕ). eqb k 3) e ∙ i, ap (λ (k : ℕ). eqb k 2) e ∙ j)

  pub pair_kept : f.kind ≡ keep_form → pair_forms ns g (f ∷ fs) ≡ keep_of (order_within g.shown (form_order f)) ∷ pair_forms ns g fs
  unfolding pair_forms cut_form
  pair_kept e = rw (ap (λ (k : ℕ). eqb k 3) e, ap (λ (k : ℕ). eqb k 2) e)

  pub pair_joined : f.kind ≡ join_form → pair_forms ns g (f ∷ fs) ≡ joined_forms ns g f fs
  unfolding pair_forms
  pair_joined e = rw (ap (λ (k : ℕ). eqb k 3) e)

-- ---- a grant on the pair

module _ (ns : List ℕ) (s t : ℕ) (b : T (declared_all ns (s ∷ (t ∷ [])))) where
  declared_first : T (declared_all ns (s ∷ []))
  unfolding every
  declared_first = and_both (ltb s (streams_in ns)) true (and_l (ltb s (streams_in ns)) _ b) tt

  declared_second : T (declared_all ns (t ∷ []))
  unfolding every
  declared_second = and_r (ltb s (streams_in ns)) _ b

declared_alone : (ns : List ℕ) (s : ℕ) → T (declared_all ns (s ∷ [])) → T (ltb s (streams_in ns))
unfolding every
declared_alone ns s b = and_l (ltb s (streams_in ns)) true b

expand_picked : {S R : Type 0} (f : S → M.Query R) (cs : List (Cond Compare)) (q : M.Query S) → expand f (picked_by cs q) ≡ picked_by cs (expand f q)
unfolding expand picked_by
expand_picked f [] q = refl
expand_picked f (c ∷ cs) q = ap (pick c) (expand_picked f cs q)

module _ (ns : List ℕ) (w : Words) (who : Caller) (same : who.profile ≡ w.profile) (g : Restriction) (n : Numbered) (a : Stands ns w g n.grant) where
  abbrev d : Schema
  d = schema_of ns

  abbrev p : Col → Bool
  p = column_in g.shown

  -- the columns of two sides
  both_columns : (l r : ℕ) → length (cols_in l) ≤ 6 → length (cols_in r) ≤ 6 → cols_in (order_from (order_within g.shown l) (codes_in (order_within g.shown r))) ≡ select p (cols_in l ++ cols_in r)
  unfolding cols_in
  both_columns l r h k =
      let low = grant_low ns w a in
      let x : map coded_col (codes_in (order_within g.shown l)) ≡ select p (map coded_col (codes_in l)) = cols_within g.shown low l in
      let y : map coded_col (codes_in (order_within g.shown r)) ≡ select p (map coded_col (codes_in r)) = cols_within g.shown low r in
      let i = sym (length-map (codes_in (order_within g.shown l)) coded_col) ∙ ap length x in
      let j = sym (length-map (codes_in (order_within g.shown r)) coded_col) ∙ ap length y in
      let u = select_fewer p (map coded_col (codes_in l)) in
      let v = select_fewer p (map coded_col (codes_in r)) in
      ap (map coded_col) (codes_from (order_within g.shown l) (codes_in (order_within g.shown r)) (within_below g.shown l) (omega arith) (small_codes (order_within g.shown r)))
      ∙ map_append ns (codes_in (order_within g.shown l)) (codes_in (order_within g.shown r)) ∙ ap₂ ◌++◌ x y ∙ sym (select_append p (map coded_col (codes_in l)) (map coded_col (codes_in r)))

  stream_few : (s : ℕ) → T (ltb s (streams_in ns)) → length (columns_of d s) ≤ 6
  stream_few s t =
      let m = width_most ns s in
      let e = ap length (stream_columns ns s (ltb→lt s (streams_in ns) t)) ∙ map_length (M.col s) 0 (width_in ns s) in
      omega arith

  header_few : (q : M.Query ℕ) → T (side q) → T (allowed (columns_of d) q) → T (keeps (distinct same_col) q) → T (ltb (stream q) (streams_in ns)) → length (header (columns_of d) q) ≤ 6
  header_few q h t k u =
      let i = once_few (header (columns_of d) q) (columns_of d (stream q)) (side_once d q h k) (side_within d q h t) in
      let j = stream_few (stream q) u in
      omega arith

  -- the view
  view_stands : (j x y : Form) (s t : ℕ) → j.kind ≡ join_form → x.kind ≡ rows_form → x.first ≡ s → y.kind ≡ rows_form → y.first ≡ t → n.grant.of ≡ s ∷ (t ∷ [])
      → queries_in w (view_forms ns g j x y) ≡ keep (shown_of d n.grant) (under (limits who n.grant) (join (coded_col j.first) (coded_col j.second) (source s) (source t))) ∷ []
  unfolding view_forms queries_in outer inner
  view_stands j x y s t e ex fx ey fy o =
      rw (form_rows w y [] ey, form_rows w x (source y.first ∷ []) ex, form_join w j (source x.first ∷ (source y.first ∷ [])) e)
      (rw (fx, fy) (shown_under (shown_order ns (s ∷ (t ∷ [])) g) (order_shown ns w a (s ∷ (t ∷ [])) o (omega arith)) (join (coded_col j.first) (coded_col j.second) (source s) (source t))))
    where
      shown_under : (m : ℕ) → cols_in m ≡ shown_of d n.grant → (q : M.Query ℕ) → with_form w (keep_of m) (with_form w (under_of g) (q ∷ [])) ≡ keep (shown_of d n.grant) (under (limits who n.grant) q) ∷ []
      shown_under m k q = rw (limited w (q ∷ []) g) (kept w (under (limits_at w (under_of g)) q ∷ []) m ∙ rw (k, limits_shown ns w a who same))

  -- both sides' columns are of the grant's streams
  both_within : (q r : M.Query ℕ) → T (side q) → T (side r) → T (allowed (columns_of d) q) → T (allowed (columns_of d) r) → n.grant.of ≡ stream q ∷ (stream r ∷ [])
      → T (within (header (columns_of d) q ++ header (columns_of d) r) (gather (columns_of d) n.grant.of))
  unfolding gather
  both_within q r h k t u o =
      let cs = columns_of d (stream q) in
      let ds = columns_of d (stream r) in
      rw o
      (within_both (header (columns_of d) q) (header (columns_of d) r) (cs ++ (ds ++ []))
      (within_trans (header (columns_of d) q) cs (cs ++ (ds ++ [])) (side_within d q h t) (within_by cs (cs ++ (ds ++ [])) (λ c i. has_append_l c cs (ds ++ []) i)))
      (within_trans (header (columns_of d) r) ds (cs ++ (ds ++ [])) (side_within d r k u) (within_by ds (cs ++ (ds ++ [])) (λ c i. has_append_r c cs (ds ++ []) (has_append_l c ds [] i)))))

  -- of the columns of both sides those that the view shows
  both_present : (x y : Col) (q r : M.Query ℕ) → T (side q) → T (side r) → T (allowed (columns_of d) q) → T (allowed (columns_of d) r) → n.grant.of ≡ stream q ∷ (stream r ∷ [])
      → present (columns d (picked_by (picks r) (picked_by (picks q) (seen (join x y q r) n)))) (header (columns_of d) q ++ header (columns_of d) r) ≡ select p (header (columns_of d) q ++ header (columns_of d) r)
  unfolding present columns seen header
  both_present x y q r h k t u o =
      let hs : Source → List Col = λ x. shown_of d x.grant in
      let e : header hs (picked_by (picks r) (picked_by (picks q) (seen (join x y q r) n))) ≡ shown_of d n.grant = header_picks hs (picks r) _ ∙ header_picks hs (picks q) _ in
      rw (e, shown_is ns w a) (present_select p (gather (columns_of d) n.grant.of) (header (columns_of d) q ++ header (columns_of d) r) (both_within q r h k t u o))

  -- ---- a join, and the forms above it

  joined_stands : (f : Form) {q r : M.Query ℕ} {fs hs : List Form} → f.kind ≡ join_form → Laid w q fs → Laid w r hs → T (side q) → T (side r) → T (allowed (columns_of d) q) → T (allowed (columns_of d) r)
      → T (keeps (distinct same_col) q) → T (keeps (distinct same_col) r) → n.grant.of ≡ stream q ∷ (stream r ∷ [])
      → queries_in w (joined_forms ns g f (fs ++ hs)) ≡ expand (defined d who) (over_view d (join (coded_col f.first) (coded_col f.second) q r) n) ∷ []
  unfolding joined_forms pair_order queries_in outer inner over_view keeping expand seen defined bare
  joined_stands f {q} {r} {fs} {hs} e l k i j t u v x o =
      let declared : T (declared_all ns (stream q ∷ (stream r ∷ []))) = rw o at a.declared in
      let dq : T (declared_all ns (stream q ∷ [])) = declared_first ns (stream q) (stream r) declared in
      let dr : T (declared_all ns (stream r ∷ [])) = declared_second ns (stream q) (stream r) declared in
      let m = append_nil hs in
      let s1 = stream_rows l i hs in
      let s2 : ((side_stream hs).kind ≡ rows_form) × ((side_stream hs).first ≡ stream r) = rw m at (stream_rows k j []) in
      let view = view_stands f (side_stream (fs ++ hs)) (side_stream hs) (stream q) (stream r) e s1.0 s1.1 s2.0 s2.1 o in
      let inner-picks = picks_around l i hs (view_forms ns g f (side_stream (fs ++ hs)) (side_stream hs)) _ view in
      let outer-picks = rw m at (picks_around k j [] (side_picks (fs ++ hs) ++ view_forms ns g f (side_stream (fs ++ hs)) (side_stream hs)) _ inner-picks) in
      let ol : cols_in (side_order ns (fs ++ hs)) ≡ header (columns_of d) q = order_header ns l i dq hs in
      let or : cols_in (side_order ns hs) ≡ header (columns_of d) r = rw m at (order_header ns k j dr []) in
      let hq = header_few q i t v (declared_alone ns (stream q) dq) in
      let hr = header_few r j u x (declared_alone ns (stream r) dr) in
      let columns-same = both_columns (side_order ns (fs ++ hs)) (side_order ns hs) (rw ol hq) (rw or hr) ∙ ap₂ (λ xs ys. select p (xs ++ ys)) ol or ∙ sym (both_present (coded_col f.first) (coded_col f.second) q r i j t u o) in
      rw (rest_after l i hs)
      (ap (with_form w (keep_of _)) outer-picks ∙ kept w (_ ∷ []) _
      ∙ rw (columns-same, expand_picked (defined d who) (picks r) (picked_by (picks q) (seen (join (coded_col f.first) (coded_col f.second) q r) n)), expand_picked (defined d who) (picks q) (seen (join (coded_col f.first) (coded_col f.second) q r) n), side_bare q i, side_bare r j))

  columns_view : (q : M.Query ℕ) → T (no_aggregate q) → T (allowed (columns_of d) q) → n.grant.of ≡ sources q → length (sources q) ≡ 2 → columns d (over_view d q n) ≡ select p (header (columns_of d) q)
  unfolding columns header over_view keeping present no_aggregate allowed sources
  columns_view (source s) h t o e = absurd (omega arith)
  columns_view (pick c q) h t o e = columns_view q h (search parts) o e
  columns_view (keep cs q) h t o e = rw (columns_view q (search parts) (search parts) o e) (present_select p (header (columns_of d) q) cs (search parts))
  columns_view (join x y q r) h t o e = both_present x y q r (search parts) (search parts) (search parts) (search parts) (o ∙ ap₂ ◌++◌ (side_sources q (search parts)) (side_sources r (search parts)))
  columns_view (aggregate f c size offset q) h t o e = absurd h

  -- a keep's columns cut by the mask are those that are there
  cut_shown : (q : M.Query ℕ) (o : ℕ) → T (no_aggregate q) → T (within (cols_in o) (header (columns_of d) q)) → T (allowed (columns_of d) q) → n.grant.of ≡ sources q → length (sources q) ≡ 2
      → cols_in (order_within g.shown o) ≡ present (columns d (over_view d q n)) (cols_in o)
  unfolding present
  cut_shown q o h v t i e = cols_within g.shown (grant_low ns w a) o ∙ sym (rw (columns_view q h t i e) (present_select p (header (columns_of d) q) (cols_in o) v))

  pub pair_queries : {q : M.Query ℕ} {fs : List Form} → Laid w q fs → T (allowed (columns_of d) q) → T (keeps (distinct same_col) q) → n.grant.of ≡ sources q → length (sources q) ≡ 2
      → queries_in w (pair_forms ns g fs) ≡ expand (defined d who) (over_view d q n) ∷ []
  unfolding allowed keeps sources over_view keeping present expand queries_in outer inner
  pair_queries (laid_rows f e) t k o z = absurd (omega arith)
  pair_queries (laid_pick f {fs} e l) t k o z = ap (queries_in w) (pair_same ns g f fs e refl refl) ∙ form_pick w f (queries_in w (pair_forms ns g fs)) e ∙ rw (pair_queries l (search parts) k o z)
  pair_queries (laid_keep f {q} {fs} e l) t k o z =
      ap (queries_in w) (pair_kept ns g f fs e) ∙ kept w (queries_in w (pair_forms ns g fs)) (order_within g.shown (form_order f))
      ∙ rw (pair_queries l (search parts) (and_r (distinct same_col (cols_in (form_order f))) (keeps (distinct same_col) q) k) o z, cut_shown q (form_order f) (search parts) (search parts) (search parts) o z)
  pair_queries (laid_join f {q} {r} {fs} {gs = hs} e l m) t k o z =
      ap (queries_in w) (pair_joined ns g f (fs ++ hs) e)
      ∙ joined_stands f e l m (search parts) (search parts) (search parts) (search parts) (and_l (keeps (distinct same_col) q) (keeps (distinct same_col) r) k) (and_r (keeps (distinct same_col) q) (keeps (distinct same_col) r) k)
      (o ∙ ap₂ ◌++◌ (side_sources q (search parts)) (side_sources r (search parts)))
  pair_queries (laid_aggregate f {fs} e l) t k o z = ap (queries_in w) (pair_same ns g f fs e refl refl) ∙ form_aggregate w f (queries_in w (pair_forms ns g fs)) e ∙ rw (pair_queries l (search parts) k o z)

-- ---- how many forms they are

joined_long : {w : Words} (ns : List ℕ) (g : Restriction) (f : Form) {q r : M.Query ℕ} {fs hs : List Form} → Laid w q fs → Laid w r hs → T (side q) → T (side r) → length (joined_forms ns g f (fs ++ hs)) ≤ suc (length (fs ++ hs)) + 3
unfolding joined_forms view_forms
joined_long ns g f {q} {r} {fs} {hs} l m h k =
    let view = view_forms ns g f (side_stream (fs ++ hs)) (side_stream hs) in
    let x = picks_fewer l h hs in
    let y = rw (append_nil hs) at (picks_fewer m k []) in
    let i = length-append (side_picks hs) (side_picks (fs ++ hs) ++ view) in
    let j = length-append (side_picks (fs ++ hs)) view in
    let z = length-append fs hs in
    rw (rest_after l h hs) (omega arith)

pub pair_long : {w : Words} (ns : List ℕ) (g : Restriction) {q : M.Query ℕ} {fs : List Form} → Laid w q fs → (hs : ℕ → List Col) → T (allowed hs q) → length (pair_forms ns g fs) ≤ length fs + 3
unfolding allowed
pair_long ns g (laid_rows f e) hs t = rw (pair_same ns g f [] e refl refl) (unfold pair_forms in omega arith)
pair_long ns g (laid_pick f {fs} e l) hs t = let i = pair_long ns g l hs (search parts) in rw (pair_same ns g f fs e refl refl) (omega arith)
pair_long ns g (laid_keep f {fs} e l) hs t = let i = pair_long ns g l hs (search parts) in rw (pair_kept ns g f fs e) (omega arith)
pair_long ns g (laid_join f {fs} {gs = ys} e l m) hs t = rw (pair_joined ns g f (fs ++ ys) e) (joined_long ns g f l m (search parts) (search parts))
pair_long ns g (laid_aggregate f {fs} e l) hs t = let i = pair_long ns g l hs (search parts) in rw (pair_same ns g f fs e refl refl) (omega arith)

-- ---- an aggregate of the pair

not_single : (ss : List ℕ) → length ss ≡ 2 → single ss ≡ false
unfolding single
not_single [] e = absurd (omega arith)
not_single (s ∷ []) e = absurd (omega arith)
not_single (s ∷ (t ∷ ss)) e = refl

summed_pair : (d : Schema) (n : Numbered) (q : M.Query ℕ) → length (sources q) ≡ 2 → summed d q n ≡ over_view d q n
unfolding summed
summed_pair d n q e = rw (not_single (sources q) e)

sum_view : (d : Schema) (n : Numbered) (q : M.Query ℕ) → length (sources q) ≡ 2 → over_sum d q n ≡ over_view d q n
unfolding sources over_sum over_view
sum_view d n (source s) e = absurd (omega arith)
sum_view d n (pick c q) e = ap (pick c) (sum_view d n q e)
sum_view d n (keep cs q) e = ap (keeping d cs) (sum_view d n q e)
sum_view d n (join x y q r) e = refl
sum_view d n (aggregate f c size offset q) e = ap (aggregate f c size offset) (summed_pair d n q e)

-- ---- the rewritten query

module _ (ns : List ℕ) (w : Words) (who : Caller) (same : who.profile ≡ w.profile) (fs : List Form) (one : T (one_query fs)) (few : length fs ≤ max_forms) (placing : T (placed (schema_of ns) (query_in w fs)))
    (once : T (keeps (distinct same_col) (query_in w fs))) (g : Restriction) (n : Numbered) (a : Stands ns w g n.grant) (of : n.grant.of ≡ sources (query_in w fs)) (two : length (sources (query_in w fs)) ≡ 2)
    (lent : List ℕ) (room : table_words ≤ length lent) where
  pub on_pair : query_in w (rewritten_forms (rewritten_table lent (pair_forms ns g fs))) ≡ expand (defined (schema_of ns) who) (over_view (schema_of ns) (query_in w fs) n)
  unfolding placed query_in outer
  on_pair =
      let l = one_laid w fs one in
      let long = pair_long ns g l (columns_of (schema_of ns)) (search parts) in
      ap (query_in w) (table_forms lent (pair_forms ns g fs) room (omega arith)) ∙ ap outer (pair_queries ns w who same g n a l (search parts) once of two)

  -- an aggregate grant's too
  pub sum_on_pair : query_in w (rewritten_forms (rewritten_table lent (pair_forms ns g fs))) ≡ expand (defined (schema_of ns) who) (over_sum (schema_of ns) (query_in w fs) n)
  sum_on_pair = on_pair ∙ ap (expand (defined (schema_of ns) who)) (sym (sum_view (schema_of ns) n (query_in w fs) two))
