-- A rewritten query passes checks 4 and 5, so it can be run with no grants.
use mathlib.Core.Path.{◌≡◌, refl, sym, ap, ap₂, ◌∙◌}
use mathlib.Core.List.{List, [], ◌∷◌, ◌++◌}
use mathlib.Core.Bool.{Bool, true, false, ◌&&◌, cond}
use Prim.Native.Nat.{ℕ}
use lib.Dec.{T, eqb}
use Rattle.lists.specs.Lists.{every, gather, empty?, distinct}
use Rattle.lists.proofs.Laws.{and_both, parts, All, all_any, all_both, all_select, all_weaken, gather_append, append_nil, same_list→eq}
use Rattle.syntax.specs.Grammar.{Cond, all, Fn}
use Rattle.model.specs.Conditions.{conds_of}
use Rattle.model.specs.Queries.{Schema, Col, columns_of, Compare, Query, source, pick, keep, join, aggregate, sources, picks, header, Grant, Caller}
use Rattle.model.specs.Grants.{limits, shown_of}
use Rattle.model.specs.Checks.{has, within, cond_cols, pickable, no_aggregate, side, linked, allowed, placed, fitting, sized, grant_placed}
use Rattle.model.specs.Routes.{equated, covers, bare, Source, Route, Numbered, present, picked_by, seen, single, columns, keeping, over_view, readable, summing, summed, routes}
use Rattle.model.specs.Rewriting.{under, defined, expand, rewritten}
use Rattle.model.proofs.Columns.{within_by, within_trans, within_select, within_present, linked_in, empty_l, empty_r}
use Rattle.model.proofs.Limits.{limits_placed}
use Rattle.model.proofs.Ways.{line, view_shape, free_bare, free_seen, free_picks, free_over, has_over, by_form, on_routes}

-- ---- tests together

three : (a b c : Bool) → T a → T b → T c → T (a && b && c)
three a b c s t u = and_both (a && b) c (and_both a b s t) u

-- the five tests of a join
join_allowed : {S : Type 0} (ks : S → List Col) (a b : Col) (q r : Query S) → T (side q) → T (side r) → T (linked a b (header ks q) (header ks r)) → T (allowed ks q) → T (allowed ks r) → T (allowed ks (join a b q r))
unfolding allowed
join_allowed ks a b q r s t l h k =
    and_both (side q && side r && linked a b (header ks q) (header ks r) && allowed ks q) (allowed ks r)
    (and_both (side q && side r && linked a b (header ks q) (header ks r)) (allowed ks q)
    (and_both (side q && side r) (linked a b (header ks q) (header ks r)) (and_both (side q) (side r) s t) l) h) k

-- ---- what a view is taken of

module _ (hs : ℕ → List Col) where
  pub header_bare : (q : Query ℕ) → header hs (bare q) ≡ gather hs (sources q)
  unfolding header bare sources gather
  header_bare (source s) = sym (append_nil (hs s))
  header_bare (pick c q) = header_bare q
  header_bare (keep cs q) = header_bare q
  header_bare (join a b q r) = ap₂ ◌++◌ (header_bare q) (header_bare r) ∙ sym (gather_append hs (sources q) (sources r))
  header_bare (aggregate f c size offset q) = header_bare q

  -- keeps only take columns away
  pub header_shrinks : (q : Query ℕ) → T (side q) → T (allowed hs q) → T (within (header hs q) (header hs (bare q)))
  unfolding side allowed header bare
  header_shrinks (source s) w h = within_by (hs s) (hs s) (λ c t. t)
  header_shrinks (pick c q) w h = header_shrinks q w (search parts)
  header_shrinks (keep cs q) w h = within_trans cs (header hs q) _ (search parts) (header_shrinks q w (search parts))
  header_shrinks (join a b q r) w h = absurd w
  header_shrinks (aggregate f c size offset q) w h = absurd w

  side_of_bare : (q : Query ℕ) → T (side q) → T (side (bare q))
  unfolding side bare
  side_of_bare (source s) w = tt
  side_of_bare (pick c q) w = side_of_bare q w
  side_of_bare (keep cs q) w = side_of_bare q w
  side_of_bare (join a b q r) w = absurd w
  side_of_bare (aggregate f c size offset q) w = absurd w

  allowed_bare : (q : Query ℕ) → T (allowed hs q) → T (allowed hs (bare q))
  unfolding allowed bare
  allowed_bare (source s) h = h
  allowed_bare (pick c q) h = allowed_bare q (search parts)
  allowed_bare (keep cs q) h = allowed_bare q (search parts)
  allowed_bare (join a b q r) h =
      join_allowed hs a b (bare q) (bare r) (side_of_bare q (search parts)) (side_of_bare r (search parts))
      (linked_in a b (header hs q) (header hs r) _ _ (header_shrinks q (search parts) (search parts)) (header_shrinks r (search parts) (search parts)) (search parts))
      (allowed_bare q (search parts)) (allowed_bare r (search parts))
  allowed_bare (aggregate f c size offset q) h = allowed_bare q (search parts)

header_expand : {S R : Type 0} (hs : R → List Col) (f : S → Query R) (q : Query S) → header hs (expand f q) ≡ header (λ s. header hs (f s)) q
unfolding header expand
header_expand hs f (source s) = refl
header_expand hs f (pick c q) = header_expand hs f q
header_expand hs f (keep cs q) = refl
header_expand hs f (join a b q r) = ap₂ ◌++◌ (header_expand hs f q) (header_expand hs f r)
header_expand hs f (aggregate g c size offset q) = refl

-- ---- check 4: forms and columns

module _ (d : Schema) (who : Caller) where
  abbrev hs : ℕ → List Col
  hs = columns_of d

  abbrev Fine : Query Source → Type 0
  Fine q = T (allowed hs (line d who q))

  -- its columns are those of its query over the views
  pub line_columns : (q : Query Source) → header hs (line d who q) ≡ columns d q
  unfolding columns defined header
  line_columns q = header_expand hs (defined d who) q

  fine_seen : (q : Query ℕ) (n : Numbered) → T (grant_placed d n.grant) → T (allowed hs q) → T (covers q n.grant) → Fine (seen q n)
  unfolding seen expand defined covers under allowed header no_aggregate
  fine_seen q n g w h = go (limits who n.grant) refl
    where
      of_q : header hs (bare q) ≡ gather hs n.grant.of
      of_q = header_bare hs q ∙ ap (gather hs) (sym (same_list→eq n.grant.of (sources q) (search parts)))

      shown : T (within (shown_of d n.grant) (header hs (bare q)))
      shown = rw of_q (unfold shown_of in within_select _ (gather hs n.grant.of))

      go : (l : List (Cond Compare)) → limits who n.grant ≡ l → T (allowed hs (keep (shown_of d n.grant) (under l (bare q))))
      go [] e = three (no_aggregate (bare q)) (within (shown_of d n.grant) (header hs (bare q))) (allowed hs (bare q)) (free_bare q) shown (allowed_bare hs q w)
      go (c ∷ cs) e =
          three (no_aggregate (bare q)) (within (shown_of d n.grant) (header hs (bare q))) (allowed hs (pick (all (conds_of c cs)) (bare q))) (free_bare q) shown
          (three (pickable (all (conds_of c cs))) (within (cond_cols (all (conds_of c cs))) (header hs (bare q))) (allowed hs (bare q)) l.0 (rw of_q l.1) (allowed_bare hs q w))
        where
          l : T (pickable (all (conds_of c cs))) × T (within (cond_cols (all (conds_of c cs))) (gather hs n.grant.of))
          l = limits_placed d who n.grant g c cs e

  fine_pick : (c : Cond Compare) (q : Query Source) → T (pickable c) → T (within (cond_cols c) (columns d q)) → Fine q → Fine (pick c q)
  unfolding expand allowed
  fine_pick c q a t h = three (pickable c) (within (cond_cols c) (header hs (line d who q))) _ a (rw (line_columns q) t) h

  fine_keep : (cs : List Col) (q : Query Source) → T (no_aggregate (line d who q)) → Fine q → Fine (keeping d cs q)
  unfolding expand allowed keeping
  fine_keep cs q a h =
      three (no_aggregate (line d who q)) (within (present (columns d q) cs) (header hs (line d who q))) _ a (rw (line_columns q) (within_present (columns d q) cs)) h

  fine_join : (a b : Col) (q r : Query Source) → T (side (line d who q)) → T (side (line d who r)) → T (linked a b (columns d q) (columns d r))
      → Fine q → Fine r → Fine (join a b q r)
  unfolding expand
  fine_join a b q r s t w h k = join_allowed hs a b (line d who q) (line d who r) s t (rw (line_columns q, line_columns r) w) h k

  fine_aggregate : (f : Fn) (c : Col) (size offset : ℕ) (q : Query Source) → T (no_aggregate (line d who q)) → T (has (columns d q) c) → Fine q → Fine (aggregate f c size offset q)
  unfolding expand allowed
  fine_aggregate f c size offset q a t h = three (no_aggregate (line d who q)) (has (header hs (line d who q)) c) _ a (rw (line_columns q) t) h

  -- over an aggregate grant's view, with no picks
  fine_over : (q : Query ℕ) (n : Numbered) → T (grant_placed d n.grant) → T (allowed hs q) → T (covers q n.grant) → T (empty? (picks q)) → T (no_aggregate q) → Fine (over_view d q n)
  unfolding over_view allowed covers sources equated picks empty? no_aggregate
  fine_over (source s) n g w h e a = fine_seen (source s) n g w h
  fine_over (pick c q) n g w h e a = absurd e
  fine_over (keep cs q) n g w h e a = fine_keep cs _ (free_over d who q n (search parts)) (fine_over q n g (search parts) h e a)
  fine_over (join x y q r) n g w h e a =
      fine_keep _ _ (free_picks d who (picks r) _ (free_picks d who (picks q) _ (free_seen d who (join x y q r) n)))
      (rw (empty_r (picks q) (picks r) e, empty_l (picks q) (picks r) e) (unfold picked_by in fine_seen (join x y q r) n g w h))
  fine_over (aggregate f c size offset q) n g w h e a = absurd a

  fine_figures : (f : Fn) (c : Col) (size offset : ℕ) (q : Query ℕ) (n : Numbered) → T (grant_placed d n.grant) → T (allowed hs (aggregate f c size offset q)) → T (summing d f c size offset q n.grant)
      → Fine (aggregate f c size offset (summed d q n))
  unfolding summed summing allowed
  fine_figures f c size offset q n g w h = go (single (sources q))
    where
      go : (b : Bool) → Fine (aggregate f c size offset (cond b (seen q n) (over_view d q n)))
      go true = fine_aggregate f c size offset (seen q n) (free_seen d who q n) (unfold columns header seen in search parts) (fine_seen q n g (search parts) (search parts))
      go false =
          fine_aggregate f c size offset (over_view d q n) (free_over d who q n (search parts))
          (has_over d n c (search parts) q (search parts) (search parts) (search parts))
          (fine_over q n g (search parts) (search parts) (search parts) (search parts))

pub allowed_rewritten : (d : Schema) (who : Caller) (catalogue : List Grant) → All (λ (g : Grant). T (grant_placed d g)) catalogue
    → (q : Query ℕ) → T (allowed (columns_of d) q) → T (sized q)
    → All (λ (r : Route). T (allowed (columns_of d) (rewritten d who r))) (routes d who catalogue q)
unfolding rewritten readable
allowed_rewritten d who catalogue gs q w z =
    on_routes d who catalogue (λ g. T (grant_placed d g)) gs (Fine d who) (fine_pick d who) (fine_keep d who) (fine_join d who)
    (λ f c size offset q a t z. fine_aggregate d who f c size offset q a (unfold within every in search parts))
    (λ q n g b w h. fine_seen d who q n g w (search parts))
    (λ f c size offset q n g b w z h. fine_figures d who f c size offset q n g w h)
    q w z

-- ---- check 4: the streams

sources_bare : (q : Query ℕ) → sources (bare q) ≡ sources q
unfolding sources bare
sources_bare (source s) = refl
sources_bare (pick c q) = sources_bare q
sources_bare (keep cs q) = sources_bare q
sources_bare (join a b q r) = ap₂ ◌++◌ (sources_bare q) (sources_bare r)
sources_bare (aggregate f c size offset q) = sources_bare q

sources_under : (cs : List (Cond Compare)) (q : Query ℕ) → sources (under cs q) ≡ sources q
unfolding sources under
sources_under [] q = refl
sources_under (c ∷ cs) q = refl

module _ (d : Schema) (who : Caller) where
  sources_seen : (q : Query ℕ) (n : Numbered) → sources (line d who (seen q n)) ≡ sources q
  unfolding seen expand defined sources
  sources_seen q n = sources_under (limits who n.grant) (bare q) ∙ sources_bare q

  sources_picks : (cs : List (Cond Compare)) (q : Query Source) → sources (line d who (picked_by cs q)) ≡ sources (line d who q)
  unfolding picked_by expand sources
  sources_picks [] q = refl
  sources_picks (c ∷ cs) q = sources_picks cs q

  sources_over : (q : Query ℕ) (n : Numbered) → sources (line d who (over_view d q n)) ≡ sources q
  unfolding over_view keeping expand sources
  sources_over (source s) n = sources_seen (source s) n
  sources_over (pick c q) n = sources_over q n
  sources_over (keep cs q) n = sources_over q n
  sources_over (join a b q r) n = sources_picks (picks r) _ ∙ sources_picks (picks q) _ ∙ sources_seen (join a b q r) n
  sources_over (aggregate f c size offset q) n = sources_over q n

  sources_summed : (q : Query ℕ) (n : Numbered) → sources (line d who (summed d q n)) ≡ sources q
  unfolding summed
  sources_summed q n = go (single (sources q))
    where
      go : (b : Bool) → sources (line d who (cond b (seen q n) (over_view d q n))) ≡ sources q
      go true = sources_seen q n
      go false = sources_over q n

-- A rewritten query reads its query's streams.
pub sources_rewritten : (d : Schema) (who : Caller) (catalogue : List Grant) (q : Query ℕ)
    → All (λ (r : Route). sources (rewritten d who r) ≡ sources q) (routes d who catalogue q)
unfolding rewritten routes keeping expand sources
sources_rewritten d who catalogue q =
    all_select _ (λ x t e. e)
    (by_form d who catalogue (λ g. Unit {0}) (all_any catalogue) (λ q gs x. sources (line d who x) ≡ sources q)
    (λ s n k b t. sources_seen d who (source s) n) (λ c q gs x t e. e) (λ cs q gs x e. e) (λ a b q r gs hs x y t e f. ap₂ ◌++◌ e f)
    (λ a b q r n k o t. sources_over d who (join a b q r) n) (λ f c size offset q gs x t e. e) (λ f c size offset q n k b t. sources_summed d who q n) q)

-- Every route's rewritten query passes check 4.
pub accepted : (d : Schema) (who : Caller) (catalogue : List Grant) → All (λ (g : Grant). T (grant_placed d g)) catalogue
    → (q : Query ℕ) → T (placed d q) → T (sized q)
    → All (λ (r : Route). T (placed d (rewritten d who r))) (routes d who catalogue q)
unfolding placed
accepted d who catalogue gs q w z =
    all_weaken (λ r h. and_both (allowed (columns_of d) (rewritten d who r)) (distinct eqb (sources (rewritten d who r))) h.0 (rw h.1 (search parts)))
    (all_both (allowed_rewritten d who catalogue gs q (search parts) z) (sources_rewritten d who catalogue q))

-- ---- check 5

sized_bare : (q : Query ℕ) → T (sized (bare q))
unfolding sized bare
sized_bare (source s) = tt
sized_bare (pick c q) = sized_bare q
sized_bare (keep cs q) = sized_bare q
sized_bare (join a b q r) = and_both (sized (bare q)) (sized (bare r)) (sized_bare q) (sized_bare r)
sized_bare (aggregate f c size offset q) = sized_bare q

module _ (d : Schema) (who : Caller) where
  sized_seen : (q : Query ℕ) (n : Numbered) → T (sized (line d who (seen q n)))
  unfolding seen expand sized
  sized_seen q n = view_shape d who sized (λ cs q t. t) (λ c q t. t) (record { grant = n.grant; over = bare q }) (sized_bare q)

  sized_picks : (cs : List (Cond Compare)) (q : Query Source) → T (sized (line d who q)) → T (sized (line d who (picked_by cs q)))
  unfolding picked_by expand sized
  sized_picks [] q h = h
  sized_picks (c ∷ cs) q h = sized_picks cs q h

  sized_over : (q : Query ℕ) (n : Numbered) → T (sized q) → T (sized (line d who (over_view d q n)))
  unfolding over_view keeping expand sized
  sized_over (source s) n z = sized_seen (source s) n
  sized_over (pick c q) n z = sized_over q n z
  sized_over (keep cs q) n z = sized_over q n z
  sized_over (join a b q r) n z = sized_picks (picks r) _ (sized_picks (picks q) _ (sized_seen (join a b q r) n))
  sized_over (aggregate f c size offset q) n z = and_both (fitting size offset) _ (search parts) (sized_over q n (search parts))

  sized_summed : (q : Query ℕ) (n : Numbered) → T (sized q) → T (sized (line d who (summed d q n)))
  unfolding summed
  sized_summed q n z = go (single (sources q))
    where
      go : (b : Bool) → T (sized (line d who (cond b (seen q n) (over_view d q n))))
      go true = sized_seen q n
      go false = sized_over q n z

-- Every route's rewritten query passes check 5.
pub sized_rewritten : (d : Schema) (who : Caller) (catalogue : List Grant) (q : Query ℕ) → T (sized q)
    → All (λ (r : Route). T (sized (rewritten d who r))) (routes d who catalogue q)
unfolding rewritten routes keeping expand sized
sized_rewritten d who catalogue q z =
    all_select _ (λ x t h. h z)
    (by_form d who catalogue (λ g. Unit {0}) (all_any catalogue) (λ q gs x. T (sized q) → T (sized (line d who x)))
    (λ s n k b t z. sized_seen d who (source s) n) (λ c q gs x t h. h) (λ cs q gs x h. h)
    (λ a b q r gs hs x y t h i z. and_both (sized (line d who x)) (sized (line d who y)) (h (search parts)) (i (search parts)))
    (λ a b q r n k o t z. sized_over d who (join a b q r) n z)
    (λ f c size offset q gs x t h z. and_both (fitting size offset) (sized (line d who x)) (search parts) (h (search parts)))
    (λ f c size offset q n k b t z. and_both (fitting size offset) (sized (line d who (summed d q n))) (search parts) (sized_summed d who q n (search parts))) q)
