-- The forms of a route with a grant for each stream stand for the route's rewritten query.
use mathlib.Core.Path.{◌≡◌, refl, sym, ap, ap₂, ◌∙◌}
use mathlib.Core.List.{List, [], ◌∷◌, ◌++◌, append_assoc}
use mathlib.Core.Bool.{false}
use Prim.Native.Nat.{ℕ, ◌+◌, ◌*◌, ◌≤◌}
use native.Mathlib.Omega.{arith}
use lib.Bits.{bit_or, or_self}
use lib.Dec.{T, eqb}
use lib.ListN.{length, length-append}
use Rattle.lists.specs.Lists.{select, gather, distinct}
use Rattle.lists.proofs.Laws.{All, all_nil, all_cons, all_head, all_left, all_right, and_l, and_r, parts, append_nil}
use Rattle.lists.proofs.Gathers.{select_append}
use Rattle.syntax.specs.Limits.{max_forms}
use Rattle.model.specs.Queries as M
use Rattle.model.specs.Queries.{Schema, columns_of, Caller, source, pick, keep, join, aggregate, sources, header}
use Rattle.model.specs.Grants.{limits, shown_of}
use Rattle.model.specs.Checks.{has, within, no_aggregate, side, allowed, placed}
use Rattle.model.specs.Routes.{Numbered, bare, present, columns, keeping, seen}
use Rattle.model.specs.Rewriting.{under, defined, expand}
use Rattle.model.proofs.Columns.{within_by}
use Rattle.model.proofs.Rewriting.{stream, side_sources}
use Rattle.schema.specs.Schemas.{schema_of}
use Rattle.orders.specs.Orders.{order_of, order_within}
use Rattle.nodes.specs.Nodes.{column_in}
use Rattle.grant.specs.Grants.{column_codes}
use Rattle.query.specs.Forms.{Words, cols_in, rows_form, keep_form, keep_of, form_order, limits_at, outer, inner, with_form, queries_in, query_in}
use Rattle.query.specs.Tables.{table_words, rewritten_forms, rewritten_table}
use Rattle.query.specs.Shapes.{one_query}
use Rattle.query.specs.declared.Form.{Form}
use Rattle.query.proofs.Shapes.{Laid, laid_rows, laid_pick, laid_keep, laid_join, laid_aggregate, form_pick, form_join, form_aggregate, one_laid}
use Rattle.query.proofs.Rewritten.{keep_order, table_forms}
use Rattle.rewrite.specs.declared.Restriction.{Restriction}
use Rattle.rewrite.specs.Rewrites.{under_of, cut_form, shown_order, seen_forms, cut_forms, side_forms}
use Rattle.rewrite.specs.Routed.{over_sides, Stands}
use Rattle.rewrite.proofs.Shown.{Low, present_select, cols_within, mask_low, order_columns, or_low, shown_first, shown_second}

-- ---- one grant

module _ (ns : List ℕ) (w : Words) where
  abbrev d : Schema
  d = schema_of ns

  module _ {g : Restriction} {m : M.Grant} (a : Stands ns w g m) where
    -- the columns that it shows are those of its mask
    pub shown_is : shown_of d m ≡ select (column_in g.shown) (gather (columns_of d) m.of)
    unfolding shown_of has
    shown_is = rw a.shown (present_select (column_in g.shown) (gather (columns_of d) m.of) (gather (columns_of d) m.of) (within_by (gather (columns_of d) m.of) (gather (columns_of d) m.of) (λ c t. t)))

    pub grant_low : Low g.shown
    grant_low = mask_low ns g.shown m.of a.declared a.theirs

    pub order_shown : (ss : List ℕ) → m.of ≡ ss → length ss ≤ 2 → cols_in (shown_order ns ss g) ≡ shown_of d m
    unfolding shown_order
    order_shown ss e h =
        cols_within g.shown grant_low (order_of (column_codes ns ss)) ∙ ap (select (column_in g.shown)) (order_columns ns ss (rw e at a.declared) h) ∙ rw (sym e) (sym shown_is)

    pub limits_shown : (who : Caller) → who.profile ≡ w.profile → limits_at w (under_of g) ≡ limits who m
    unfolding limits_at limits
    limits_shown who e = rw (a.when, a.from, a.to, e)

-- a stream as the grant shows it
module _ (ns : List ℕ) (w : Words) (who : Caller) (same : who.profile ≡ w.profile) where
  pub seen_stands : (f : Form) → f.kind ≡ rows_form → (g : Restriction) (n : Numbered) → Stands ns w g n.grant → n.grant.of ≡ f.first ∷ [] → (gs : List Form)
      → queries_in w (seen_forms ns g f ++ gs) ≡ expand (defined (schema_of ns) who) (seen (source f.first) n) ∷ queries_in w gs
  unfolding seen_forms queries_in with_form outer inner expand seen defined bare
  seen_stands f e g n a o gs = rw e (rw (keep_order (shown_order ns (f.first ∷ []) g), order_shown ns w a (f.first ∷ []) o (omega arith), limits_shown ns w a who same))

-- forms of a keep and of a grant, in front of queries
module _ (w : Words) (qs : List (M.Query ℕ)) where
  pub kept : (o : ℕ) → with_form w (keep_of o) qs ≡ keep (cols_in o) (outer qs) ∷ inner qs
  unfolding with_form
  kept o = rw (keep_order o)

  pub limited : (g : Restriction) → with_form w (under_of g) qs ≡ under (limits_at w (under_of g)) (outer qs) ∷ inner qs
  unfolding with_form
  limited g = refl

-- ---- a form, by its kind

module _ (ns : List ℕ) (mask : ℕ) (g h : Restriction) (f : Form) (fs : List Form) where
  pub cut_rows : f.kind ≡ rows_form → cut_forms ns mask g h (f ∷ fs) ≡ seen_forms ns g f ++ cut_forms ns mask h h fs
  unfolding cut_forms
  cut_rows e = rw (ap (λ (k : ℕ). eqb k 0) e)

  pub cut_same : {k : ℕ} → f.kind ≡ k → eqb k rows_form ≡ false → eqb k keep_form ≡ false → cut_forms ns mask g h (f ∷ fs) ≡ f ∷ cut_forms ns mask g h fs
  unfolding cut_forms cut_form
  cut_same e i j = rw (ap (λ (k : ℕ). eqb k 0) e ∙ i, ap (λ (k : ℕ). eqb k 2) e ∙ j)

  pub cut_kept : f.kind ≡ keep_form → cut_forms ns mask g h (f ∷ fs) ≡ keep_of (order_within mask (form_order f)) ∷ cut_forms ns mask g h fs
  unfolding cut_forms cut_form
  cut_kept e = rw (ap (λ (k : ℕ). eqb k 0) e, ap (λ (k : ℕ). eqb k 2) e)

-- ---- a grant of a stream

-- it stands for the grant on the stream alone, and the mask shows just its columns of it
pub record Sees (ns : List ℕ) (w : Words) (mask : ℕ) (g : Restriction) (n : Numbered) (s : ℕ) : Type 0 where
  pub stands : Stands ns w g n.grant
  pub of : n.grant.of ≡ s ∷ []
  pub shown : shown_of (schema_of ns) n.grant ≡ select (column_in mask) (columns_of (schema_of ns) s)

-- of each stream of a query
unfoldable pub SeesAll : List ℕ → Words → ℕ → Restriction → Numbered → Restriction → Numbered → M.Query ℕ → Type 0
SeesAll ns w mask g n h m (source s) = Sees ns w mask g n s
SeesAll ns w mask g n h m (pick c q) = SeesAll ns w mask g n h m q
SeesAll ns w mask g n h m (keep cs q) = SeesAll ns w mask g n h m q
SeesAll ns w mask g n h m (join a b q r) = SeesAll ns w mask g n h m q × SeesAll ns w mask h m h m r
SeesAll ns w mask g n h m (aggregate f c size offset q) = SeesAll ns w mask g n h m q

module _ (ns : List ℕ) (w : Words) (who : Caller) (same : who.profile ≡ w.profile) (mask : ℕ) (low : Low mask) where
  abbrev dd : Schema
  dd = schema_of ns

  -- the columns of the query over the views are those of the query that the mask shows
  columns_over : (g : Restriction) (n : Numbered) (h : Restriction) (m : Numbered) (q : M.Query ℕ) → SeesAll ns w mask g n h m q → T (no_aggregate q) → T (allowed (columns_of dd) q)
      → columns dd (over_sides dd n m q) ≡ select (column_in mask) (header (columns_of dd) q)
  unfolding SeesAll columns header over_sides seen keeping present no_aggregate allowed
  columns_over g n h m (source s) a u t = a.shown
  columns_over g n h m (pick c q) a u t = columns_over g n h m q a u (search parts)
  columns_over g n h m (keep cs q) a u t =
      rw (columns_over g n h m q a (search parts) (search parts)) (present_select (column_in mask) (header (columns_of dd) q) cs (search parts))
  columns_over g n h m (join x y q r) a u t =
      ap₂ ◌++◌ (columns_over g n h m q a.0 (search parts) (search parts)) (columns_over h m h m r a.1 (search parts) (search parts))
      ∙ sym (select_append (column_in mask) (header (columns_of dd) q) (header (columns_of dd) r))
  columns_over g n h m (aggregate f c size offset q) a u t = absurd u

  -- a keep's columns cut by the mask are those that are there
  cut_present : (g : Restriction) (n : Numbered) (h : Restriction) (m : Numbered) (q : M.Query ℕ) (o : ℕ) → SeesAll ns w mask g n h m q → T (no_aggregate q) → T (allowed (columns_of dd) q) → T (within (cols_in o) (header (columns_of dd) q))
      → cols_in (order_within mask o) ≡ present (columns dd (over_sides dd n m q)) (cols_in o)
  unfolding present
  cut_present g n h m q o a u t v =
      cols_within mask low o ∙ sym (rw (columns_over g n h m q a u t) (present_select (column_in mask) (header (columns_of dd) q) (cols_in o) v))

  pub sides_queries : {q : M.Query ℕ} {fs : List Form} → Laid w q fs → (g : Restriction) (n : Numbered) (h : Restriction) (m : Numbered) → SeesAll ns w mask g n h m q → T (allowed (columns_of dd) q) → (gs : List Form)
      → queries_in w (cut_forms ns mask g h (fs ++ gs)) ≡ expand (defined dd who) (over_sides dd n m q) ∷ queries_in w (cut_forms ns mask h h gs)
  unfolding SeesAll over_sides keeping expand allowed queries_in outer inner
  sides_queries (laid_rows f e) g n h m a t gs = ap (queries_in w) (cut_rows ns mask g h f gs e) ∙ seen_stands ns w who same f e g n a.stands a.of (cut_forms ns mask h h gs)
  sides_queries (laid_pick f {q} {fs} e l) g n h m a t gs =
      ap (queries_in w) (cut_same ns mask g h f (fs ++ gs) e refl refl) ∙ form_pick w f (queries_in w (cut_forms ns mask g h (fs ++ gs))) e ∙ rw (sides_queries l g n h m a (search parts) gs)
  sides_queries (laid_keep f {q} {fs} e l) g n h m a t gs =
      ap (queries_in w) (cut_kept ns mask g h f (fs ++ gs) e) ∙ kept w (queries_in w (cut_forms ns mask g h (fs ++ gs))) (order_within mask (form_order f))
      ∙ rw (sides_queries l g n h m a (search parts) gs, cut_present g n h m q (form_order f) a (search parts) (search parts) (search parts))
  sides_queries (laid_join f {q} {r} {fs} {gs = hs} e l k) g n h m a t gs =
      ap (queries_in w) (cut_same ns mask g h f ((fs ++ hs) ++ gs) e refl refl) ∙ form_join w f (queries_in w (cut_forms ns mask g h ((fs ++ hs) ++ gs))) e
      ∙ rw (append_assoc fs hs gs, sides_queries l g n h m a.0 (search parts) (hs ++ gs), sides_queries k h m h m a.1 (search parts) gs)
  sides_queries (laid_aggregate f {q} {fs} e l) g n h m a t gs =
      ap (queries_in w) (cut_same ns mask g h f (fs ++ gs) e refl refl) ∙ form_aggregate w f (queries_in w (cut_forms ns mask g h (fs ++ gs))) e ∙ rw (sides_queries l g n h m a (search parts) gs)

-- ---- the streams of a placed query

pub same_sees : (ns : List ℕ) (w : Words) (mask : ℕ) (g : Restriction) (n : Numbered) (q : M.Query ℕ) → All (Sees ns w mask g n) (sources q) → SeesAll ns w mask g n g n q
unfolding sources SeesAll
same_sees ns w mask g n (source s) a = all_head a
same_sees ns w mask g n (pick c q) a = same_sees ns w mask g n q a
same_sees ns w mask g n (keep cs q) a = same_sees ns w mask g n q a
same_sees ns w mask g n (join x y q r) a = (same_sees ns w mask g n q (all_left (sources q) (sources r) a), same_sees ns w mask g n r (all_right (sources q) (sources r) a))
same_sees ns w mask g n (aggregate f c size offset q) a = same_sees ns w mask g n q a

module _ (ns : List ℕ) (w : Words) (mask : ℕ) (g : Restriction) (n : Numbered) (h : Restriction) (m : Numbered) where
  -- one stream, whatever is for those after it
  side_sees : (q : M.Query ℕ) (s : ℕ) → T (side q) → sources q ≡ s ∷ [] → Sees ns w mask g n s → SeesAll ns w mask g n h m q
  unfolding side sources SeesAll
  side_sees (source x) s t e a = let z : x ≡ s = cc in rw z a
  side_sees (pick c q) s t e a = side_sees q s t e a
  side_sees (keep cs q) s t e a = side_sees q s t e a
  side_sees (join x y q r) s t e a = absurd t
  side_sees (aggregate f c size offset q) s t e a = absurd t

  side_again : (q : M.Query ℕ) (s : ℕ) → T (side q) → sources q ≡ s ∷ [] → Sees ns w mask h m s → SeesAll ns w mask h m h m q
  side_again q s t e a = same_sees ns w mask h m q (rw e (all_cons a all_nil))

  pub two_see : (q : M.Query ℕ) (s t : ℕ) → T (allowed (columns_of (schema_of ns)) q) → sources q ≡ s ∷ (t ∷ []) → Sees ns w mask g n s → Sees ns w mask h m t → SeesAll ns w mask g n h m q
  unfolding sources SeesAll allowed
  two_see (source x) s t u e a b = absurd (let z : ◌≡◌ {A = ℕ} 1 2 = ap length e in omega arith)
  two_see (pick c q) s t u e a b = two_see q s t (search parts) e a b
  two_see (keep cs q) s t u e a b = two_see q s t (search parts) e a b
  two_see (join x y q r) s t u e a b =
      let i : sources q ≡ stream q ∷ [] = side_sources q (search parts) in
      let j : sources r ≡ stream r ∷ [] = side_sources r (search parts) in
      let k : stream q ∷ (stream r ∷ []) ≡ s ∷ (t ∷ []) = sym (ap₂ ◌++◌ i j) ∙ e in
      let y : stream q ≡ s = cc in
      let z : stream r ≡ t = cc in
      (side_sees q (stream q) (search parts) i (rw y a), side_again r (stream r) (search parts) j (rw z b))
  two_see (aggregate f c size offset q) s t u e a b = two_see q s t (search parts) e a b

-- ---- how many forms they are

pub cut_long : {w : Words} {q : M.Query ℕ} {fs : List Form} → Laid w q fs → (ns : List ℕ) (mask : ℕ) (g h : Restriction) (gs : List Form) → length (cut_forms ns mask g h (fs ++ gs)) ≡ length fs + 2 * length (sources q) + length (cut_forms ns mask h h gs)
unfolding sources seen_forms
cut_long (laid_rows f e) ns mask g h gs = rw (cut_rows ns mask g h f gs e) (omega arith)
cut_long (laid_pick f {fs} e l) ns mask g h gs = let i = cut_long l ns mask g h gs in rw (cut_same ns mask g h f (fs ++ gs) e refl refl) (omega arith)
cut_long (laid_keep f {fs} e l) ns mask g h gs = let i = cut_long l ns mask g h gs in rw (cut_kept ns mask g h f (fs ++ gs) e) (omega arith)
cut_long (laid_join f {q} {r} {fs} {gs = hs} e l k) ns mask g h gs =
    let i = cut_long l ns mask g h (hs ++ gs) in
    let j = cut_long k ns mask h h gs in
    let a = length-append fs hs in
    let b = length-append (sources q) (sources r) in
    rw (cut_same ns mask g h f ((fs ++ hs) ++ gs) e refl refl, append_assoc fs hs gs) (omega arith)
cut_long (laid_aggregate f {fs} e l) ns mask g h gs = let i = cut_long l ns mask g h gs in rw (cut_same ns mask g h f (fs ++ gs) e refl refl) (omega arith)

-- ---- the rewritten query

module _ (ns : List ℕ) (w : Words) (who : Caller) (same : who.profile ≡ w.profile) (fs : List Form) (one : T (one_query fs)) (few : length fs ≤ max_forms) (placing : T (placed (schema_of ns) (query_in w fs)))
    (lent : List ℕ) (room : table_words ≤ length lent) where
  sides_stand : (g : Restriction) (n : Numbered) (h : Restriction) (m : Numbered) → Low (bit_or g.shown h.shown) → SeesAll ns w (bit_or g.shown h.shown) g n h m (query_in w fs) → length (sources (query_in w fs)) ≤ 2
      → query_in w (rewritten_forms (rewritten_table lent (side_forms ns g h fs))) ≡ expand (defined (schema_of ns) who) (over_sides (schema_of ns) n m (query_in w fs))
  unfolding side_forms cut_forms placed query_in outer
  sides_stand g n h m low a k =
      let mask = bit_or g.shown h.shown in
      let l = one_laid w fs one in
      let e = append_nil fs in
      let long = rw e at (cut_long l ns mask g h []) in
      let q = rw e at (sides_queries ns w who same mask low l g n h m a (search parts) []) in
      ap (query_in w) (table_forms lent (cut_forms ns mask g h fs) room (omega arith)) ∙ ap outer q

  -- of one stream
  pub one_side : (g : Restriction) (n : Numbered) (s : ℕ) → Stands ns w g n.grant → n.grant.of ≡ s ∷ [] → sources (query_in w fs) ≡ s ∷ []
      → query_in w (rewritten_forms (rewritten_table lent (side_forms ns g g fs))) ≡ expand (defined (schema_of ns) who) (over_sides (schema_of ns) n n (query_in w fs))
  unfolding gather
  one_side g n s a o e =
      let z = or_self g.shown in
      let shown : shown_of (schema_of ns) n.grant ≡ select (column_in (bit_or g.shown g.shown)) (columns_of (schema_of ns) s) = shown_is ns w a ∙ rw (o, z) (ap (select (column_in g.shown)) (append_nil (columns_of (schema_of ns) s))) in
      let see : Sees ns w (bit_or g.shown g.shown) g n s = record { stands = a; of = o; shown = shown } in
      sides_stand g n g n (rw z (grant_low ns w a)) (same_sees ns w (bit_or g.shown g.shown) g n (query_in w fs) (rw e (all_cons see all_nil))) (rw e (omega arith))

  -- of two
  pub two_sides : (g : Restriction) (n : Numbered) (h : Restriction) (m : Numbered) (s t : ℕ) → Stands ns w g n.grant → n.grant.of ≡ s ∷ [] → Stands ns w h m.grant → m.grant.of ≡ t ∷ [] → sources (query_in w fs) ≡ s ∷ (t ∷ [])
      → query_in w (rewritten_forms (rewritten_table lent (side_forms ns g h fs))) ≡ expand (defined (schema_of ns) who) (over_sides (schema_of ns) n m (query_in w fs))
  unfolding gather placed
  two_sides g n h m s t a o b p e =
      let mask = bit_or g.shown h.shown in
      let d : T (distinct eqb (s ∷ (t ∷ []))) = rw e at (and_r (allowed (columns_of (schema_of ns)) (query_in w fs)) _ placing) in
      let x : shown_of (schema_of ns) n.grant ≡ select (column_in g.shown) (columns_of (schema_of ns) s) = shown_is ns w a ∙ rw o (ap (select (column_in g.shown)) (append_nil (columns_of (schema_of ns) s))) in
      let y : shown_of (schema_of ns) m.grant ≡ select (column_in h.shown) (columns_of (schema_of ns) t) = shown_is ns w b ∙ rw p (ap (select (column_in h.shown)) (append_nil (columns_of (schema_of ns) t))) in
      let i : Sees ns w mask g n s = record { stands = a; of = o; shown = x ∙ shown_first ns g.shown h.shown s t d (rw p at b.declared) (rw p at b.theirs) } in
      let j : Sees ns w mask h m t = record { stands = b; of = p; shown = y ∙ shown_second ns g.shown h.shown s t d (rw o at a.declared) (rw o at a.theirs) } in
      sides_stand g n h m (or_low g.shown h.shown (grant_low ns w a) (grant_low ns w b))
      (two_see ns w mask g n h m (query_in w fs) s t (and_l (allowed (columns_of (schema_of ns)) (query_in w fs)) _ placing) e i j) (rw e (omega arith))

-- a side has one stream: what is for those after it is free
pub over_side : (d : Schema) (n m k : Numbered) (q : M.Query ℕ) → T (side q) → over_sides d n m q ≡ over_sides d n k q
unfolding side over_sides
over_side d n m k (source s) h = refl
over_side d n m k (pick c q) h = ap (pick c) (over_side d n m k q h)
over_side d n m k (keep cs q) h = ap (keeping d cs) (over_side d n m k q h)
over_side d n m k (join x y q r) h = absurd h
over_side d n m k (aggregate f c size offset q) h = absurd h
