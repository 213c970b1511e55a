-- What holds of every route of a query: the principle by which facts about routes are proved.
use mathlib.Core.Path.{◌≡◌, refl}
use mathlib.Core.List.{List, [], ◌∷◌, ◌++◌, map}
use mathlib.Core.Bool.{Bool, not}
use Prim.Native.Nat.{ℕ, suc, pred, ◌+◌}
use native.Mathlib.Omega.{arith}
use lib.Dec.{T}
use lib.ListN.{take, drop}
use Rattle.lists.specs.Lists.{every, gather, empty?}
use Rattle.lists.proofs.Laws.{and_both, parts, All, all_nil, all_cons, all_select, all_weaken, all_both, all_append, all_map, all_gather, gather_append}
use Rattle.syntax.specs.Grammar.{Cond, all, Fn}
use Rattle.model.specs.Conditions.{conds_of}
use Rattle.model.specs.Queries.{Schema, Col, columns_of, Compare, Query, source, pick, keep, join, aggregate, picks, header, Grant, Caller}
use Rattle.model.specs.Grants.{belongs, limits, shown_of}
use Rattle.model.specs.Checks.{has, within, cond_cols, pickable, no_aggregate, side, linked, allowed, fitting, sized}
use Rattle.model.specs.Routes.{bare, Source, Route, Numbered, numbered, opened, picked_by, seen, alone, onto, beside, columns, keeping, over_view, readable, summing, summed, showing, ways, routes}
use Rattle.model.specs.Rewriting.{under, defined, expand}
use Rattle.model.proofs.Asked.{grants_at}
use Rattle.model.proofs.Columns.{has_within, has_present, within_l, within_r}

-- a fact of every grant, of the numbered ones
pub all_numbered : {K : Grant → Type 0} (k : ℕ) {gs : List Grant} → All K gs → All (λ (n : Numbered). K n.grant) (numbered k gs)
unfolding numbered
all_numbered k all_nil = all_nil
all_numbered k (all_cons h hs) = all_cons h (all_numbered (suc k) hs)

pub header_picks : {S : Type 0} (hs : S → List Col) (ps : List (Cond Compare)) (q : Query S) → header hs (picked_by ps q) ≡ header hs q
unfolding header picked_by
header_picks hs [] q = refl
header_picks hs (p ∷ ps) q = header_picks hs ps q

-- a side's picks are such as may stand in a query
pub side_pickable : {S : Type 0} (hs : S → List Col) (q : Query S) → T (side q) → T (allowed hs q) → T (every pickable (picks q))
unfolding side allowed picks every
side_pickable hs (source s) w h = tt
side_pickable hs (pick c q) w h = and_both (pickable c) (every pickable (picks q)) (search parts) (side_pickable hs q w (search parts))
side_pickable hs (keep cs q) w h = side_pickable hs q w (search parts)
side_pickable hs (join a b q r) w h = absurd w
side_pickable hs (aggregate f c size offset q) w h = absurd w

-- a column that the view shows and the query names stands above the view too
pub has_over : (d : Schema) (n : Numbered) (c : Col) → T (has (shown_of d n.grant) c)
    → (q : Query ℕ) → T (allowed (columns_of d) q) → T (no_aggregate q) → T (has (header (columns_of d) q) c) → T (has (columns d (over_view d q n)) c)
unfolding allowed no_aggregate header columns over_view keeping seen
has_over d n c shown (source s) w a h = shown
has_over d n c shown (pick p q) w a h = has_over d n c shown q (search parts) a h
has_over d n c shown (keep cs q) w a h = has_present c _ cs h (has_over d n c shown q (search parts) a (has_within c (header (columns_of d) q) cs (search parts) h))
has_over d n c shown (join x y q r) w a h =
    has_present c _ _ h (rw (header_picks _ (picks r) _, header_picks _ (picks q) _) shown)
has_over d n c shown (aggregate g e s o q) w a h = absurd a

-- ---- the shape of a rewritten query, by that of its query

pub free_bare : (q : Query ℕ) → T (no_aggregate (bare q))
unfolding no_aggregate bare
free_bare (source s) = tt
free_bare (pick c q) = free_bare q
free_bare (keep cs q) = free_bare q
free_bare (join a b q r) = and_both (no_aggregate (bare q)) (no_aggregate (bare r)) (free_bare q) (free_bare r)
free_bare (aggregate f c size offset q) = free_bare q

module _ (d : Schema) (who : Caller) where
  abbrev pub line : Query Source → Query ℕ
  line q = expand (defined d who) q

  -- what keeps and picks leave true holds of a view's line
  pub view_shape : (p : Query ℕ → Bool) → ((cs : List Col) (q : Query ℕ) → T (p q) → T (p (keep cs q))) → ((c : Cond Compare) (q : Query ℕ) → T (p q) → T (p (pick c q)))
      → (x : Source) → T (p x.over) → T (p (defined d who x))
  unfolding defined under
  view_shape p k i x h = k (shown_of d x.grant) _ (go (limits who x.grant))
    where
      go : (cs : List (Cond Compare)) → T (p (under cs x.over))
      go [] = h
      go (c ∷ cs) = i (all (conds_of c cs)) x.over h

  pub free_seen : (q : Query ℕ) (n : Numbered) → T (no_aggregate (line (seen q n)))
  unfolding seen expand no_aggregate
  free_seen q n = view_shape no_aggregate (λ cs q t. t) (λ c q t. t) (record { grant = n.grant; over = bare q }) (free_bare q)

  side_seen : (s : ℕ) (n : Numbered) → T (side (line (seen (source s) n)))
  unfolding seen expand side bare
  side_seen s n = view_shape side (λ cs q t. t) (λ c q t. t) (record { grant = n.grant; over = source s }) tt

  pub free_picks : (cs : List (Cond Compare)) (q : Query Source) → T (no_aggregate (line q)) → T (no_aggregate (line (picked_by cs q)))
  unfolding picked_by expand no_aggregate
  free_picks [] q h = h
  free_picks (c ∷ cs) q h = free_picks cs q h

  pub free_over : (q : Query ℕ) (n : Numbered) → T (no_aggregate q) → T (no_aggregate (line (over_view d q n)))
  unfolding no_aggregate expand over_view keeping
  free_over (source s) n w = free_seen (source s) n
  free_over (pick c q) n w = free_over q n w
  free_over (keep cs q) n w = free_over q n w
  free_over (join a b q r) n w = free_picks (picks r) _ (free_picks (picks q) _ (free_seen (join a b q r) n))
  free_over (aggregate f c size offset q) n w = absurd w

-- ---- the principle, by the form of the query

-- a numbered grant is the one of its number
pub numbered_at : (catalogue : List Grant) → All (λ (n : Numbered). grants_at catalogue (n.no ∷ []) ≡ n.grant ∷ []) (numbered 1 catalogue)
unfolding grants_at gather numbered
numbered_at catalogue =
    all_weaken (λ n h. let e : pred n.no ≡ h.0 = omega (arith, h.1) in rw (e, h.2)) (from 1 catalogue)
  where
    from : (k : ℕ) (gs : List Grant) → All (λ (n : Numbered). (i : ℕ) × (n.no ≡ k + i) × (take 1 (drop i gs) ≡ n.grant ∷ [])) (numbered k gs)
    from k [] = all_nil
    from k (g ∷ gs) = all_cons {x = record { no = k; grant = g }} (0, omega arith, refl) (all_weaken (λ n h. (suc h.0, omega (arith, h.1), h.2)) (from (suc k) gs))

pub grants_append : (catalogue : List Grant) (ns ms : List ℕ) → grants_at catalogue (ns ++ ms) ≡ grants_at catalogue ns ++ grants_at catalogue ms
unfolding grants_at
grants_append catalogue ns ms = gather_append _ ns ms

-- P of a query, of the grants of a route, and of what the route makes of the query
module _ (d : Schema) (who : Caller) (catalogue : List Grant) (K : Grant → Type 0) (ks : All K catalogue)
    (P : Query ℕ → List Grant → Query Source → Type 0)
    (on_source : (s : ℕ) (n : Numbered) → K n.grant → T (belongs who n.grant) → T (readable d (source s) n.grant) → P (source s) (n.grant ∷ []) (seen (source s) n))
    (on_pick : (c : Cond Compare) (q : Query ℕ) (gs : List Grant) (x : Query Source) → T (within (cond_cols c) (columns d x)) → P q gs x → P (pick c q) gs (pick c x))
    (on_keep : (cs : List Col) (q : Query ℕ) (gs : List Grant) (x : Query Source) → P q gs x → P (keep cs q) gs (keeping d cs x))
    (on_join : (a b : Col) (q r : Query ℕ) (gs hs : List Grant) (x y : Query Source) → T (linked a b (columns d x) (columns d y)) → P q gs x → P r hs y
    → P (join a b q r) (gs ++ hs) (join a b x y))
    (on_pair : (a b : Col) (q r : Query ℕ) (n : Numbered) → K n.grant → T (belongs who n.grant) → T (readable d (join a b q r) n.grant)
    → P (join a b q r) (n.grant ∷ []) (over_view d (join a b q r) n))
    (on_aggregate : (f : Fn) (c : Col) (size offset : ℕ) (q : Query ℕ) (gs : List Grant) (x : Query Source) → T (within (c ∷ []) (columns d x)) → P q gs x
    → P (aggregate f c size offset q) gs (aggregate f c size offset x))
    (on_figures : (f : Fn) (c : Col) (size offset : ℕ) (q : Query ℕ) (n : Numbered) → K n.grant → T (belongs who n.grant) → T (summing d f c size offset q n.grant)
    → P (aggregate f c size offset q) (n.grant ∷ []) (aggregate f c size offset (summed d q n))) where
  abbrev Fits : Query ℕ → Route → Type 0
  Fits q x = P q (grants_at catalogue x.grants) x.query

  from_opened : (q : Query ℕ) (p : Grant → Bool) (f : Numbered → Query Source)
      → ((n : Numbered) → K n.grant → T (belongs who n.grant) → T (p n.grant) → P q (n.grant ∷ []) (f n))
      → All (Fits q) (map (alone f) (opened who catalogue p))
  unfolding opened alone
  from_opened q p f h =
      all_map {P = λ n. P q (grants_at catalogue (n.no ∷ [])) (f n)} (alone f) (λ n p. p)
      (all_select _ (λ n t k. rw k.1 (h n k.0 (search parts) (search parts))) (all_both (all_numbered 1 ks) (numbered_at catalogue)))

  pub by_form : (q : Query ℕ) → All (Fits q) (ways d who catalogue q)
  unfolding ways onto beside showing
  by_form (source s) = from_opened (source s) (readable d (source s)) (seen (source s)) (on_source s)
  by_form (pick c q) =
      all_map {P = λ x. T (within (cond_cols c) (columns d x.query)) × Fits q x} (onto (pick c)) (λ x h. on_pick c q _ x.query h.0 h.1)
      (all_select _ (λ x t h. (t, h)) (by_form q))
  by_form (keep cs q) = all_map {P = Fits q} (onto (keeping d cs)) (λ x h. on_keep cs q _ x.query h) (by_form q)
  by_form (join a b q r) =
      all_append
      (all_gather {P = Fits q}
      (λ x h. all_map {P = λ y. T (linked a b (columns d x.query) (columns d y.query)) × Fits r y} (beside a b x)
      (λ y i. rw (grants_append catalogue x.grants y.grants) (on_join a b q r _ _ x.query y.query i.0 h i.1))
      (all_select _ (λ y t i. (t, i)) (by_form r)))
      (by_form q))
      (from_opened (join a b q r) (readable d (join a b q r)) (over_view d (join a b q r)) (on_pair a b q r))
  by_form (aggregate f c size offset q) =
      all_append
      (all_map {P = λ x. T (within (c ∷ []) (columns d x.query)) × Fits q x} (onto (aggregate f c size offset)) (λ x h. on_aggregate f c size offset q _ x.query h.0 h.1)
      (all_select _ (λ x t h. (t, h)) (by_form q)))
      (from_opened (aggregate f c size offset q) (summing d f c size offset q) (λ n. aggregate f c size offset (summed d q n)) (on_figures f c size offset q))

-- ---- the principle, of checked queries

-- To show P of every route's query, show that P is kept by what the routes are made with, and that it holds of a grant's view and of an aggregate over one.
module _ (d : Schema) (who : Caller) (catalogue : List Grant) (K : Grant → Type 0) (ks : All K catalogue)
    (P : Query Source → Type 0)
    (on_pick : (c : Cond Compare) (q : Query Source) → T (pickable c) → T (within (cond_cols c) (columns d q)) → P q → P (pick c q))
    (on_keep : (cs : List Col) (q : Query Source) → T (no_aggregate (line d who q)) → P q → P (keeping d cs q))
    (on_join : (a b : Col) (q r : Query Source) → T (side (line d who q)) → T (side (line d who r)) → T (linked a b (columns d q) (columns d r)) → P q → P r → P (join a b q r))
    (on_aggregate : (f : Fn) (c : Col) (size offset : ℕ) (q : Query Source) → T (no_aggregate (line d who q)) → T (within (c ∷ []) (columns d q)) → T (fitting size offset) → P q → P (aggregate f c size offset q))
    (on-view : (q : Query ℕ) (n : Numbered) → K n.grant → T (belongs who n.grant)
    → T (allowed (columns_of d) q) → T (readable d q n.grant) → P (seen q n))
    (on_figures : (f : Fn) (c : Col) (size offset : ℕ) (q : Query ℕ) (n : Numbered) → K n.grant → T (belongs who n.grant)
    → T (allowed (columns_of d) (aggregate f c size offset q)) → T (fitting size offset) → T (summing d f c size offset q n.grant)
    → P (aggregate f c size offset (summed d q n))) where
  by_picks : (cs : List (Cond Compare)) (q : Query Source) → T (every pickable cs) → T (within (gather cond_cols cs) (columns d q)) → P q → P (picked_by cs q)
  unfolding picked_by gather columns every
  by_picks [] q a t h = h
  by_picks (c ∷ cs) q a t h =
      on_pick c (picked_by cs q) (search parts) (rw (header_picks _ cs q) (within_l (cond_cols c) (gather cond_cols cs) _ t))
      (by_picks cs q (search parts) (within_r (cond_cols c) (gather cond_cols cs) _ t) h)

  pair_picked : (a b : Col) (q r : Query ℕ) (n : Numbered) → T (allowed (columns_of d) (join a b q r)) → T (readable d (join a b q r) n.grant) → P (seen (join a b q r) n)
      → P (picked_by (picks r) (picked_by (picks q) (seen (join a b q r) n)))
  unfolding readable picks columns header seen allowed
  pair_picked a b q r n w' t h =
      let w : T (within (gather cond_cols (picks q ++ picks r)) (shown_of d n.grant)) = search parts in
      let v = rw (gather_append cond_cols (picks q) (picks r)) at w in
      by_picks (picks r) _ (side_pickable (columns_of d) r (search parts) (search parts)) (rw (header_picks _ (picks q) _) (within_r (gather cond_cols (picks q)) _ _ v))
      (by_picks (picks q) _ (side_pickable (columns_of d) q (search parts) (search parts)) (within_l (gather cond_cols (picks q)) _ _ v) h)

  -- with what has to be known of the query and its line on the way
  abbrev Good : Query ℕ → List Grant → Query Source → Type 0
  Good q gs x = (T (side q) → T (side (line d who x))) × (T (no_aggregate q) → T (no_aggregate (line d who x))) × (T (allowed (columns_of d) q) → T (sized q) → P x)

  on_ways : (q : Query ℕ) → T (allowed (columns_of d) q) → T (sized q) → All (λ (x : Route). P x.query) (ways d who catalogue q)
  unfolding side no_aggregate allowed sized expand keeping over_view
  on_ways q w z =
      all_weaken (λ x h. h.2 w z)
      (by_form d who catalogue K ks Good
      (λ s n k b t. (λ i. side_seen d who s n, λ i. free_seen d who (source s) n, λ w z. on-view (source s) n k b w t))
      (λ c q gs x t h. (h.0, h.1, λ w z. on_pick c x (search parts) t (h.2 (search parts) z)))
      (λ cs q gs x h. (h.0, h.1, λ w z. on_keep cs x (h.1 (search parts)) (h.2 (search parts) z)))
      (λ a b q r gs hs x y t h i. (
        λ s. s,
        λ n. and_both (no_aggregate (line d who x)) (no_aggregate (line d who y)) (h.1 (search parts)) (i.1 (search parts)),
        λ w z. on_join a b x y (h.0 (search parts)) (i.0 (search parts)) t (h.2 (search parts) (search parts)) (i.2 (search parts) (search parts)),
      ))
      (λ a b q r n k o t. (
        λ s. absurd s,
        λ s. free_over d who (join a b q r) n s,
        λ w z. on_keep _ _ (free_picks d who (picks r) _ (free_picks d who (picks q) _ (free_seen d who (join a b q r) n))) (pair_picked a b q r n w t (on-view (join a b q r) n k o w t)),
      ))
      (λ f c size offset q gs x t h. (λ s. s, λ n. n, λ w z. on_aggregate f c size offset x (h.1 (search parts)) t (search parts) (h.2 (search parts) (search parts))))
      (λ f c size offset q n k b t. (λ s. s, λ n. n, λ w z. on_figures f c size offset q n k b w (search parts) t))
      q)

  pub on_routes : (q : Query ℕ) → T (allowed (columns_of d) q) → T (sized q) → All (λ (x : Route). P x.query) (routes d who catalogue q)
  unfolding routes
  on_routes q w z = all_select _ (λ x t p. p) (on_ways q w z)

  -- and it shows a column
  pub on_routes_shown : (q : Query ℕ) → T (allowed (columns_of d) q) → T (sized q) → All (λ (x : Route). T (not (empty? (columns d x.query))) × P x.query) (routes d who catalogue q)
  unfolding routes
  on_routes_shown q w z = all_select _ (λ x t p. (t, p)) (on_ways q w z)
