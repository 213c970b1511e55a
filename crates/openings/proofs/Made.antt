-- Every route is made of the query by its grants.
use mathlib.Core.Path.{◌≡◌, refl, sym, ap, ap₂, ◌∙◌, subst}
use mathlib.Core.List.{List, [], ◌∷◌, ◌++◌, map, map-map, map-id}
use mathlib.Core.Bool.{Bool, true, false, cond}
use Prim.Native.Nat.{ℕ}
use lib.Dec.{T, eqb}
use Rattle.lists.proofs.Laws.{T_true, parts, All, all_nil, all_cons, all_head, all_any, all_select, all_append, map_same}
use Rattle.syntax.specs.Grammar.{Right, read, figures, Cond, Fn}
use Rattle.model.specs.Queries.{Schema, Col, columns_of, Compare, Query, source, pick, keep, join, aggregate, sources, Grant, Caller}
use Rattle.model.specs.Checks.{no_aggregate, side, allowed, placed}
use Rattle.model.specs.Routes.{reads, gives, Source, Route, Numbered, seen, single, keeping, over_view, readable, summing, summed, ways, routes}
use Rattle.model.proofs.Asked.{grants_at}
use Rattle.model.proofs.RouteKinds.{kinds}
use Rattle.model.proofs.Found.{routes_found}
use Rattle.model.proofs.Forms.{side_free}
use Rattle.model.proofs.Rewriting.{side_sources}
use Rattle.model.proofs.Ways.{by_form}
use Rattle.openings.specs.Made.{looked, through, figured, made, lone_kind, made_by}

-- ---- a grant's number does not matter

over_same : (d : Schema) (n : Numbered) (q : Query ℕ) → over_view d q n ≡ over_view d q (looked n.grant)
unfolding over_view seen
over_same d n (source s) = refl
over_same d n (pick c q) = ap (pick c) (over_same d n q)
over_same d n (keep cs q) = ap (keeping d cs) (over_same d n q)
over_same d n (join a b q r) = refl
over_same d n (aggregate f c size offset q) = ap (aggregate f c size offset) (over_same d n q)

summed_same : (d : Schema) (n : Numbered) (q : Query ℕ) → summed d q n ≡ summed d q (looked n.grant)
unfolding summed seen
summed_same d n q = ap (λ x. cond (single (sources q)) (seen q n) x) (over_same d n q)

-- ---- rights

gives_reads : (f : Fn) (r : Right) → T (gives f r) → reads r ≡ false
unfolding gives reads
gives_reads f read t = absurd t
gives_reads f (figures g) t = refl

-- ---- made of a form by what is made of the query inside

module _ (d : Schema) (e : Grant) where
  made_pick : (c : Cond Compare) (q : Query ℕ) (k : ℕ) (g h : Grant) → made d (pick c q) k g h ≡ pick c (made d q k g h)
  unfolding made through figured over_view
  made_pick c q k g h = go (eqb k 1) (eqb k 2)
    where
      go : (x y : Bool) → cond x (pick c (through d g h q)) (cond y (pick c (over_view d q (looked g))) (pick c (figured d g q))) ≡ pick c (cond x (through d g h q) (cond y (over_view d q (looked g)) (figured d g q)))
      go true y = refl
      go false true = refl
      go false false = refl

  made_keep : (cs : List Col) (q : Query ℕ) (k : ℕ) (g h : Grant) → made d (keep cs q) k g h ≡ keeping d cs (made d q k g h)
  unfolding made through figured over_view
  made_keep cs q k g h = go (eqb k 1) (eqb k 2)
    where
      go : (x y : Bool) → cond x (keeping d cs (through d g h q)) (cond y (keeping d cs (over_view d q (looked g))) (keeping d cs (figured d g q))) ≡ keeping d cs (cond x (through d g h q) (cond y (over_view d q (looked g)) (figured d g q)))
      go true y = refl
      go false true = refl
      go false false = refl

  by_pick : (c : Cond Compare) (q : Query ℕ) (gs : List Grant) → made_by d e (pick c q) gs ≡ pick c (made_by d e q gs)
  unfolding made_by lone_kind sources
  by_pick c q [] = made_pick c q 1 e e
  by_pick c q (g ∷ []) = made_pick c q (lone_kind d q g) g g
  by_pick c q (g ∷ (h ∷ gs)) = made_pick c q 1 g h

  by_keep : (cs : List Col) (q : Query ℕ) (gs : List Grant) → made_by d e (keep cs q) gs ≡ keeping d cs (made_by d e q gs)
  unfolding made_by lone_kind sources
  by_keep cs q [] = made_keep cs q 1 e e
  by_keep cs q (g ∷ []) = made_keep cs q (lone_kind d q g) g g
  by_keep cs q (g ∷ (h ∷ gs)) = made_keep cs q 1 g h

  -- the kind of a route with one reading grant
  reading_kind : (q : Query ℕ) (g : Grant) (b : Bool) → T (reads g.right) → single (sources q) ≡ b → lone_kind d q g ≡ cond b 1 2
  unfolding lone_kind
  reading_kind q g b t s = ap₂ (λ x y. cond x (cond y 1 2) 3) (T_true (reads g.right) t) s

  side_single : (q : Query ℕ) → T (side q) → single (sources q) ≡ true
  unfolding single
  side_single q w = ap single (side_sources q w)

  sides_single : (q r : Query ℕ) → T (side q) → T (side r) → single (sources q ++ sources r) ≡ false
  unfolding single
  sides_single q r v w = ap₂ (λ x y. single (x ++ y)) (side_sources q v) (side_sources r w)

  by_side : (q : Query ℕ) (g : Grant) → T (side q) → T (reads g.right) → made_by d e q (g ∷ []) ≡ through d g g q
  unfolding made_by made
  by_side q g w t = ap (λ k. made d q k g g) (reading_kind q g true t (side_single q w))

  -- over an aggregate: its grants read
  by_aggregate : (f : Fn) (c : Col) (size offset : ℕ) (q : Query ℕ) (gs : List Grant) → All (λ (g : Grant). T (reads g.right)) gs
      → made_by d e (aggregate f c size offset q) gs ≡ aggregate f c size offset (made_by d e q gs)
  unfolding made_by made through over_view
  by_aggregate f c size offset q [] h = refl
  by_aggregate f c size offset q (g ∷ []) h = go (single (sources q)) refl
    where
      go : (b : Bool) → single (sources q) ≡ b → made_by d e (aggregate f c size offset q) (g ∷ []) ≡ aggregate f c size offset (made_by d e q (g ∷ []))
      go true s =
          ap (λ k. made d (aggregate f c size offset q) k g g) (reading_kind (aggregate f c size offset q) g true (all_head h) (unfold sources in s))
          ∙ ap (aggregate f c size offset) (ap (λ k. made d q k g g) (sym (reading_kind q g true (all_head h) s)))
      go false s =
          ap (λ k. made d (aggregate f c size offset q) k g g) (reading_kind (aggregate f c size offset q) g false (all_head h) (unfold sources in s))
          ∙ ap (aggregate f c size offset) (ap (λ k. made d q k g g) (sym (reading_kind q g false (all_head h) s)))
  by_aggregate f c size offset q (g ∷ (h ∷ gs)) t = refl

  -- ---- the principle

  -- a side's route has one grant; below the aggregate every grant reads; and the route's query is made by the grants
  pub record Made (q : Query ℕ) (gs : List Grant) (x : Query Source) : Type 0 where
    pub lone : T (side q) → (g : Grant) × (gs ≡ g ∷ [])
    pub reading : T (no_aggregate q) → All (λ (g : Grant). T (reads g.right)) gs
    pub same : T (allowed (columns_of d) q) → x ≡ made_by d e q gs

  on_source : (s : ℕ) (n : Numbered) → T (readable d (source s) n.grant) → Made (source s) (n.grant ∷ []) (seen (source s) n)
  on_source s n t = record {
    lone = λ w. (n.grant, refl);
    reading = λ a. all_cons {x = n.grant} (unfold readable in search parts) all_nil;
    same = λ w. unfold seen through in sym (by_side (source s) n.grant (unfold side in tt) (unfold readable in search parts));
  }

  on_pick : (c : Cond Compare) (q : Query ℕ) (gs : List Grant) (x : Query Source) → Made q gs x → Made (pick c q) gs (pick c x)
  unfolding side no_aggregate allowed
  on_pick c q gs x h = record { lone = h.lone; reading = h.reading; same = λ w. ap (pick c) (h.same (search parts)) ∙ sym (by_pick c q gs) }

  on_keep : (cs : List Col) (q : Query ℕ) (gs : List Grant) (x : Query Source) → Made q gs x → Made (keep cs q) gs (keeping d cs x)
  unfolding side no_aggregate allowed
  on_keep cs q gs x h = record { lone = h.lone; reading = h.reading; same = λ w. ap (keeping d cs) (h.same (search parts)) ∙ sym (by_keep cs q gs) }

  by_two : (a b : Col) (q r : Query ℕ) (g h : Grant) → join a b (through d g g q) (through d h h r) ≡ made_by d e (join a b q r) (g ∷ (h ∷ []))
  unfolding made_by made through
  by_two a b q r g h = refl

  by_join : (a b : Col) (q r : Query ℕ) (gs hs : List Grant) (x y : Query Source) → T (allowed (columns_of d) (join a b q r)) → Made q gs x → Made r hs y
      → join a b x y ≡ made_by d e (join a b q r) (gs ++ hs)
  unfolding allowed
  by_join a b q r gs hs x y w h i =
      ap₂ (join a b) (one q gs x h (search parts) (search parts)) (one r hs y i (search parts) (search parts))
      ∙ by_two a b q r (h.lone (search parts)).0 (i.lone (search parts)).0
      ∙ sym (ap₂ (λ u v. made_by d e (join a b q r) (u ++ v)) (h.lone (search parts)).1 (i.lone (search parts)).1)
    where
      one : (q : Query ℕ) (gs : List Grant) (x : Query Source) (h : Made q gs x) (w : T (side q)) → T (allowed (columns_of d) q) → x ≡ through d (h.lone w).0 (h.lone w).0 q
      one q gs x h w v =
          h.same v ∙ ap (made_by d e q) (h.lone w).1
          ∙ by_side q (h.lone w).0 w (all_head (subst (All (λ (g : Grant). T (reads g.right))) (h.lone w).1 (h.reading (side_free q w))))

  on_join : (a b : Col) (q r : Query ℕ) (gs hs : List Grant) (x y : Query Source) → Made q gs x → Made r hs y → Made (join a b q r) (gs ++ hs) (join a b x y)
  unfolding side no_aggregate
  on_join a b q r gs hs x y h i = record {
    lone = λ w. absurd w;
    reading = λ a. all_append (h.reading (search parts)) (i.reading (search parts));
    same = λ w. by_join a b q r gs hs x y w h i;
  }

  by_pair : (a b : Col) (q r : Query ℕ) (n : Numbered) → T (allowed (columns_of d) (join a b q r)) → T (reads n.grant.right) → over_view d (join a b q r) n ≡ made_by d e (join a b q r) (n.grant ∷ [])
  unfolding allowed made_by
  by_pair a b q r n w t =
      over_same d n (join a b q r)
      ∙ over_pair
      ∙ sym (ap (λ k. made d (join a b q r) k n.grant n.grant) (reading_kind (join a b q r) n.grant false t (unfold sources in sides_single q r (search parts) (search parts))))
    where
      over_pair : over_view d (join a b q r) (looked n.grant) ≡ made d (join a b q r) 2 n.grant n.grant
      over_pair = unfold made in refl

  on_pair : (a b : Col) (q r : Query ℕ) (n : Numbered) → T (readable d (join a b q r) n.grant) → Made (join a b q r) (n.grant ∷ []) (over_view d (join a b q r) n)
  on_pair a b q r n t = record {
    lone = λ w. (n.grant, refl);
    reading = λ a. all_cons {x = n.grant} (unfold readable in search parts) all_nil;
    same = λ w. by_pair a b q r n w (unfold readable in search parts);
  }

  on_aggregate : (f : Fn) (c : Col) (size offset : ℕ) (q : Query ℕ) (gs : List Grant) (x : Query Source) → Made q gs x → Made (aggregate f c size offset q) gs (aggregate f c size offset x)
  unfolding side no_aggregate allowed
  on_aggregate f c size offset q gs x h = record {
    lone = λ w. absurd w;
    reading = λ a. absurd a;
    same = λ w. ap (aggregate f c size offset) (h.same (search parts)) ∙ sym (by_aggregate f c size offset q gs (h.reading (search parts)));
  }

  by_figures : (f : Fn) (c : Col) (size offset : ℕ) (q : Query ℕ) (n : Numbered) → T (gives f n.grant.right)
      → aggregate f c size offset (summed d q n) ≡ made_by d e (aggregate f c size offset q) (n.grant ∷ [])
  unfolding made_by made lone_kind figured
  by_figures f c size offset q n t =
      ap (aggregate f c size offset) (summed_same d n q)
      ∙ sym (ap (λ b. made d (aggregate f c size offset q) (cond b (cond (single (sources (aggregate f c size offset q))) 1 2) 3) n.grant n.grant) (gives_reads f n.grant.right t))

  on_figures : (f : Fn) (c : Col) (size offset : ℕ) (q : Query ℕ) (n : Numbered) → T (summing d f c size offset q n.grant)
      → Made (aggregate f c size offset q) (n.grant ∷ []) (aggregate f c size offset (summed d q n))
  unfolding side no_aggregate
  on_figures f c size offset q n t = record {
    lone = λ w. absurd w;
    reading = λ a. absurd a;
    same = λ w. by_figures f c size offset q n (unfold summing in search parts);
  }

  -- ---- every route

  module _ (who : Caller) (catalogue : List Grant) where
    ways_made : (q : Query ℕ) → All (λ (x : Route). Made q (grants_at catalogue x.grants) x.query) (ways d who catalogue q)
    ways_made q =
        by_form d who catalogue (λ g. Unit {0}) (all_any catalogue) Made
        (λ s n k b t. on_source s n t)
        (λ c q gs x t h. on_pick c q gs x h)
        (λ cs q gs x h. on_keep cs q gs x h)
        (λ a b q r gs hs x y t h i. on_join a b q r gs hs x y h i)
        (λ a b q r n k o t. on_pair a b q r n t)
        (λ f c size offset q gs x t h. on_aggregate f c size offset q gs x h)
        (λ f c size offset q n k b t. on_figures f c size offset q n t)
        q

    -- the route of some numbers
    abbrev pub route_of : Query ℕ → List ℕ → Route
    route_of q ns = record { grants = ns; query = made_by d e q (grants_at catalogue ns) }

    -- Routes are those of the three kinds, each with the query that its grants make; the grant that stands where there is none does not matter.
    pub routes_made : (q : Query ℕ) → T (placed d q) → routes d who catalogue q ≡ map (route_of q) (kinds d who catalogue q)
    routes_made q w =
        sym (map-id (routes d who catalogue q))
        ∙ map_same (λ (x : Route). x) (λ (x : Route). route_of q x.grants) all_same
        ∙ sym (map-map (route_of q) (λ (x : Route). x.grants) (routes d who catalogue q))
        ∙ ap (map (route_of q)) (routes_found d who catalogue q w)
      where
        same_route : (x : Route) → x.query ≡ made_by d e q (grants_at catalogue x.grants) → x ≡ route_of q x.grants
        same_route x p = λ i. record { grants = x.grants; query = p i }

        may : T (allowed (columns_of d) q)
        may = unfold placed in search parts

        all_same : All (λ (x : Route). x ≡ route_of q x.grants) (routes d who catalogue q)
        all_same = unfold routes in all_select _ (λ x t h. same_route x (h.same may)) (ways_made q)
