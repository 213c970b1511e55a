-- Which routes there are, and in which order: those of the three kinds, and no others.
use mathlib.Core.Path.{◌≡◌, refl, sym, ap, ap₂, ◌∙◌, subst}
use mathlib.Core.List.{List, [], ◌∷◌, ◌++◌, map, map-map, map-append, map-id, append_assoc}
use mathlib.Core.Bool.{Bool, true, false, ◌&&◌, ◌||◌, not, cond}
use Prim.Native.Nat.{ℕ}
use lib.Dec.{T, eqb, leb}
use Rattle.lists.specs.Lists.{select, every, some?, empty?, gather, same_list, distinct}
use Rattle.lists.proofs.Laws.{and_both, or_l, or_cases, parts, All, all_nil, all_cons, all_any, all_select, all_weaken, all_append, all_map, all_gather, gather_same, gather_append, append_nil, select_all, select_map, map_same, same_list→eq}
use Rattle.lists.proofs.Gathers.{select_append, gather_ones, gather_gather, gather_map, map_gather, select_gather, gather_select, every_append_same, select_none}
use Rattle.syntax.specs.Grammar.{Right, Cond, Fn}
use Rattle.model.specs.Queries.{Schema, Col, figure, same_col, columns_of, Compare, Query, source, pick, keep, join, aggregate, sources, picks, header, Grant, Caller, Record}
use Rattle.model.specs.Grants.{belongs, shown_of}
use Rattle.model.specs.Checks.{has, within, cond_cols, timed, no_aggregate, side, linked, allowed, placed}
use Rattle.model.specs.Routes.{reads, gives, is_equality, equated, covers, Source, Route, Numbered, numbered, opened, seen, single, alone, onto, beside, columns, keeping, over_view, readable, summing, summed, showing, ways, routes}
use Rattle.model.proofs.Asked.{shown_by, left, grants_at, joins_by}
use Rattle.model.proofs.RouteKinds.{asked_cols, equal_cols, side_picks, has_equality, numbers, for_each, first_kind, second_kind, third_kind, kinds}
use Rattle.model.proofs.Columns.{same_col→eq, has_within, has_append_l, has_append_r, within_by, within_trans, within_both, within_select}
use Rattle.model.proofs.Distinct.{distinct_l, distinct_r}
use Rattle.model.proofs.Ways.{numbered_at, grants_append}
use Rattle.model.proofs.Rewriting.{and_true, side_sources, stream}
use Rattle.model.proofs.OneRow.{select_same, select_both, has_select_same, and_swap, all_by, header_in, one_shows}
use Rattle.model.proofs.Forms.{apart, heads_apart, every_same, none_show, shown_l, shown_r, side_free}
use Rattle.model.proofs.Questions.{way_columns}

-- ---- lists

-- a test of routes that is one of their numbers
select_grants : (p : Route → Bool) (t : List ℕ → Bool) {xs : List Route} → All (λ (r : Route). p r ≡ t r.grants) xs → map (λ (r : Route). r.grants) (select p xs) ≡ select t (map (λ (r : Route). r.grants) xs)
unfolding select
select_grants p t all_nil = refl
select_grants p t (all_cons {x} {xs} h hs) = go (p x) (t x.grants) h (select_grants p t hs)
  where
    go : (a b : Bool) → a ≡ b → map (λ (r : Route). r.grants) (select p xs) ≡ select t (map (λ (r : Route). r.grants) xs)
        → map (λ (r : Route). r.grants) (cond a (x ∷ select p xs) (select p xs)) ≡ cond b (x.grants ∷ select t (map (λ (r : Route). r.grants) xs)) (select t (map (λ (r : Route). r.grants) xs))
    go true true e i = ap (λ l. x.grants ∷ l) i
    go true false e i = absurd (subst T e tt)
    go false true e i = absurd (subst T (sym e) tt)
    go false false e i = i

module _ {A B : Type 0} where
  -- a test made before, of all or none
  select_before : (f : A → B) (b : Bool) (u v : A → Bool) {xs : List A} → All (λ x. v x ≡ b && u x) xs → cond b (map f (select u xs)) [] ≡ map f (select v xs)
  select_before f true u v h = sym (ap (map f) (select_same v u h))
  select_before f false u v {xs} h = sym (ap (map f) (select_same v (λ x. false) h ∙ select_none xs))

-- ---- tests of columns

pub has_select_both : (p : Col → Bool) (c : Col) (cs : List Col) → has (select p cs) c ≡ has cs c && p c
unfolding has some? select
has_select_both p c [] = refl
has_select_both p c (e ∷ cs) = go (same_col c e) (p e) refl refl (has_select_both p c cs)
  where
    go : (a b : Bool) → same_col c e ≡ a → p e ≡ b → some? (same_col c) (select p cs) ≡ some? (same_col c) cs && p c
        → some? (same_col c) (cond b (e ∷ select p cs) (select p cs)) ≡ (a || some? (same_col c) cs) && p c
    go true true u v i = let w = ap p (same_col→eq c e (rw u tt)) ∙ v in rw (u, w)
    go true false u v i = let w = ap p (same_col→eq c e (rw u tt)) ∙ v in i ∙ rw w (and_none (some? (same_col c) cs))
      where
        and_none : (b : Bool) → b && false ≡ false
        and_none true = refl
        and_none false = refl
    go false true u v i = rw u i
    go false false u v i = i

-- columns that the query has, and that are left, are those that are shown
within_left : (d : Schema) (gs : List Grant) (q : Query ℕ) (cs : List Col) → T (within cs (header (columns_of d) q)) → within cs (left d gs q) ≡ every (shown_by d gs) cs
unfolding within left
within_left d gs q cs w = every_same _ _ (all_by cs (λ c t. has_select_same (shown_by d gs) c (header (columns_of d) q) (has_within c (header (columns_of d) q) cs w t)))

-- ---- sides of a join

side_equated : (cs : List (Cond Compare)) (q : Query ℕ) → T (side q) → equated cs q ≡ true
unfolding equated side
side_equated cs (source s) w = refl
side_equated cs (pick c q) w = side_equated cs q w
side_equated cs (keep ds q) w = side_equated cs q w
side_equated cs (join a b q r) w = absurd w
side_equated cs (aggregate f c size offset q) w = absurd w

side_equal : (q : Query ℕ) → T (side q) → equal_cols q ≡ []
unfolding equal_cols side
side_equal (source s) w = refl
side_equal (pick c q) w = side_equal q w
side_equal (keep ds q) w = side_equal q w
side_equal (join a b q r) w = absurd w
side_equal (aggregate f c size offset q) w = absurd w

side_asked : (q : Query ℕ) → T (side q) → asked_cols q ≡ gather cond_cols (picks q)
unfolding asked_cols side picks gather
side_asked (source s) w = refl
side_asked (pick c q) w = ap (λ cs. cond_cols c ++ cs) (side_asked q w)
side_asked (keep ds q) w = side_asked q w
side_asked (join a b q r) w = absurd w
side_asked (aggregate f c size offset q) w = absurd w

asked_in : (d : Schema) (q : Query ℕ) → T (side q) → T (allowed (columns_of d) q) → T (within (asked_cols q) (gather (columns_of d) (sources q)))
unfolding asked_cols side allowed sources
asked_in d (source s) w h = unfold within every in tt
asked_in d (pick c q) w h =
    within_both (cond_cols c) (asked_cols q) (gather (columns_of d) (sources q))
    (within_trans (cond_cols c) (header (columns_of d) q) (gather (columns_of d) (sources q)) (search parts) (header_in d q (side_free q w) (search parts))) (asked_in d q w (search parts))
asked_in d (keep ds q) w h = asked_in d q w (search parts)
asked_in d (join a b q r) w h = absurd w
asked_in d (aggregate f c size offset q) w h = absurd w

single_two : (s t : List ℕ) (m n : ℕ) → s ≡ m ∷ [] → t ≡ n ∷ [] → single (s ++ t) ≡ false
unfolding single
single_two s t m n e f = ap₂ (λ u v. single (u ++ v)) e f

-- a query's equality, if it has a join, is one of the conditions
equated_same : (hs : ℕ → List Col) (q : Query ℕ) (g : Grant) → T (allowed hs q) → equated g.when q ≡ has_equality q g
unfolding equated has_equality sources joins_by allowed
equated_same hs (source s) g w = unfold single in refl
equated_same hs (pick c q) g w = equated_same hs q g (search parts)
equated_same hs (keep cs q) g w = equated_same hs q g (search parts)
equated_same hs (join a b q r) g w =
    ap₂ (λ u v. some? (is_equality a b) g.when && (u && v)) (side_equated g.when q (search parts)) (side_equated g.when r (search parts))
    ∙ sym (and_true (some? (is_equality a b) g.when))
    ∙ sym (ap (λ b'. b' || some? (is_equality a b) g.when) (single_two (sources q) (sources r) (stream q) (stream r) (side_sources q (search parts)) (side_sources r (search parts))))
equated_same hs (aggregate f c size offset q) g w = equated_same hs q g (search parts)

-- a join's equality over the columns left, where it stands over the columns of the sides
linked_shown : (a₁ b₁ a₂ b₂ p q r s x y : Bool) → T (a₁ && b₁ || a₂ && b₂) → (T a₁ → T b₂ → ⊥) → (T a₂ → T b₁ → ⊥)
    → (T a₁ → x ≡ p) → (T b₁ → y ≡ q) → (T a₂ → y ≡ r) → (T b₂ → x ≡ s) → (a₁ && p) && (b₁ && q) || (a₂ && r) && (b₂ && s) ≡ x && y
linked_shown true true true b₂ p q r s x y t f g h i j k = absurd (g tt tt)
linked_shown true true false true p q r s x y t f g h i j k = absurd (f tt tt)
linked_shown true true false false p q r s x y t f g h i j k = or_none (p && q) ∙ sym (ap₂ ◌&&◌ (h tt) (i tt))
  where
    or_none : (b : Bool) → b || false ≡ b
    or_none true = refl
    or_none false = refl
linked_shown true false true true p q r s x y t f g h i j k = absurd (f tt tt)
linked_shown true false true false p q r s x y t f g h i j k = absurd t
linked_shown true false false b₂ p q r s x y t f g h i j k = absurd t
linked_shown false true true b₂ p q r s x y t f g h i j k = absurd (g tt tt)
linked_shown false true false b₂ p q r s x y t f g h i j k = absurd t
linked_shown false false true true p q r s x y t f g h i j k = and_swap r s ∙ sym (ap₂ ◌&&◌ (k tt) (j tt))
linked_shown false false true false p q r s x y t f g h i j k = absurd t
linked_shown false false false b₂ p q r s x y t f g h i j k = absurd t

-- ---- grants by number

and_under : (b c s t u : Bool) → (T s → t ≡ u) → b && (c && (s && t)) ≡ b && (c && (s && u))
and_under b c true t u f = ap (λ v. b && (c && v)) (f tt)
and_under b c false t u f = refl

and_last : (u b c s t : Bool) → u && (b && (c && (s && t))) ≡ b && (c && (s && (t && u)))
and_last u true true true t = and_swap u t
and_last true true true false t = refl
and_last false true true false t = refl
and_last true true false s t = refl
and_last false true false s t = refl
and_last true false c s t = refl
and_last false false c s t = refl

module _ (d : Schema) (who : Caller) (catalogue : List Grant) where
  abbrev one : Numbered → List ℕ
  one n = n.no ∷ []

  abbrev gs : List ℕ → List Grant
  gs ns = grants_at catalogue ns

  abbrev found : Query ℕ → List (List ℕ)
  found q = map (λ (r : Route). r.grants) (ways d who catalogue q)

  numbers_same : (p : Right → Bool) (ss : List ℕ) (t u : Grant → Bool) → ((g : Grant) → T (same_list g.of ss) → t g ≡ u g) → numbers d who catalogue p ss t ≡ numbers d who catalogue p ss u
  unfolding numbers
  numbers_same p ss t u f =
      ap (map one) (select_same _ _ (all_weaken (λ n h. and_under (belongs who n.grant) (p n.grant.right) (same_list n.grant.of ss) (t n.grant) (u n.grant) (f n.grant)) (all_any (numbered 1 catalogue))))

  -- a further test of their grants
  numbers_select : (p : Right → Bool) (ss : List ℕ) (t : Grant → Bool) (u : List Grant → Bool) → select (λ ns. u (gs ns)) (numbers d who catalogue p ss t) ≡ numbers d who catalogue p ss (λ g. t g && u (g ∷ []))
  unfolding numbers
  numbers_select p ss t u =
      select_map (λ ns. u (gs ns)) one _
      ∙ ap (map one) (select_both (λ n. u (gs (one n))) _ (numbered 1 catalogue)
      ∙ select_same _ _ (all_weaken (λ n e. ap (λ hs. u hs && (belongs who n.grant && (p n.grant.right && (same_list n.grant.of ss && t n.grant)))) e
      ∙ and_last (u (n.grant ∷ [])) (belongs who n.grant) (p n.grant.right) (same_list n.grant.of ss) (t n.grant)) (numbered_at catalogue)))

  opened_numbers : (f : Numbered → Query Source) (p : Grant → Bool) (r : Right → Bool) (ss : List ℕ) (t : Grant → Bool) → ((g : Grant) → p g ≡ r g.right && (same_list g.of ss && t g))
      → map (λ (x : Route). x.grants) (map (alone f) (opened who catalogue p)) ≡ numbers d who catalogue r ss t
  unfolding numbers opened alone
  opened_numbers f p r ss t h =
      map-map (λ (x : Route). x.grants) (alone f) (opened who catalogue p)
      ∙ ap (map one) (select_same _ _ (all_weaken (λ n u. ap (λ b. belongs who n.grant && b) (h n.grant)) (all_any (numbered 1 catalogue))))

  -- what they are on
  numbers_of : (p : Right → Bool) (ss : List ℕ) (t : Grant → Bool) → All (λ ns. All (λ (g : Grant). g.of ≡ ss) (gs ns)) (numbers d who catalogue p ss t)
  unfolding numbers
  numbers_of p ss t =
      all_map {P = λ n. All (λ (g : Grant). g.of ≡ ss) (gs (one n))} one (λ n h. h)
      (all_select _ (λ n t e. rw e (all_cons {x = n.grant} (same_list→eq n.grant.of ss (search parts)) all_nil)) (numbered_at catalogue))

  inside : (ss : List ℕ) → All (λ ns. All (λ (g : Grant). T (within (shown_of d g) (gather (columns_of d) ss))) (gs ns)) (for_each d who catalogue ss)
  unfolding for_each gather
  inside [] = all_cons {x = []} (unfold grants_at gather in all_nil) all_nil
  inside (s ∷ ss) =
      all_gather {P = λ ns. All (λ (g : Grant). g.of ≡ s ∷ []) (gs ns)}
      (λ ns h. all_map {P = λ ms. All (λ (g : Grant). T (within (shown_of d g) (gather (columns_of d) ss))) (gs ms)} (λ ms. ns ++ ms)
      (λ ms k. rw (grants_append catalogue ns ms) (all_append (all_weaken (λ g e. of_first g e) h) (all_weaken (λ g t. within_by (shown_of d g) _ (λ c u. has_append_r c (columns_of d s) (gather (columns_of d) ss) (has_within c _ (shown_of d g) t u))) k)))
      (inside ss))
      (numbers_of reads (s ∷ []) (λ g. true))
    where
      of_first : (g : Grant) → g.of ≡ s ∷ [] → T (within (shown_of d g) (columns_of d s ++ gather (columns_of d) ss))
      of_first g e = within_by (shown_of d g) _ (λ c u. has_append_l c (columns_of d s) (gather (columns_of d) ss) (has_within c (columns_of d s) (shown_of d g) (shown_in g e) u))
        where
          shown_in : (g : Grant) → g.of ≡ s ∷ [] → T (within (shown_of d g) (columns_of d s))
          shown_in g e = subst (λ cs. T (within (shown_of d g) cs)) (ap (gather (columns_of d)) e ∙ append_nil (columns_of d s)) (unfold shown_of in within_select _ (gather (columns_of d) g.of))

  for_each_append : (ss ts : List ℕ) → for_each d who catalogue (ss ++ ts) ≡ gather (λ ns. map (λ ms. ns ++ ms) (for_each d who catalogue ts)) (for_each d who catalogue ss)
  unfolding for_each gather
  for_each_append [] ts = sym (append_nil (map (λ ms. ms) (for_each d who catalogue ts)) ∙ map-id (for_each d who catalogue ts))
  for_each_append (s ∷ ss) ts =
      gather_same (all_weaken (λ ns u. step ns (for_each_append ss ts)) (all_any (numbers d who catalogue reads (s ∷ []) (λ g. true))))
      ∙ sym (gather_gather (λ ns. map (λ ms. ns ++ ms) (for_each d who catalogue ts)) (λ ns. map (λ ms. ns ++ ms) (for_each d who catalogue ss)) (numbers d who catalogue reads (s ∷ []) (λ g. true)))
    where
      step : (ns : List ℕ) → for_each d who catalogue (ss ++ ts) ≡ gather (λ ns. map (λ ms. ns ++ ms) (for_each d who catalogue ts)) (for_each d who catalogue ss)
          → map (λ ms. ns ++ ms) (for_each d who catalogue (ss ++ ts)) ≡ gather (λ ns. map (λ ms. ns ++ ms) (for_each d who catalogue ts)) (map (λ ms. ns ++ ms) (for_each d who catalogue ss))
      step ns e =
          ap (map (λ ms. ns ++ ms)) e
          ∙ map_gather (λ ms. ns ++ ms) (λ ms. map (λ ls. ms ++ ls) (for_each d who catalogue ts)) (for_each d who catalogue ss)
          ∙ gather_same (all_weaken (λ ms u. map-map (λ ls. ns ++ ls) (λ ls. ms ++ ls) (for_each d who catalogue ts) ∙ map_same _ _ (all_weaken (λ ls v. sym (append_assoc ns ms ls)) (all_any (for_each d who catalogue ts)))) (all_any (for_each d who catalogue ss)))
          ∙ sym (gather_map (λ ns. map (λ ms. ns ++ ms) (for_each d who catalogue ts)) (λ ms. ns ++ ms) (for_each d who catalogue ss))

  -- ---- the third kind

  third_none : (q : Query ℕ) → T (no_aggregate q) → third_kind d who catalogue q ≡ []
  unfolding third_kind no_aggregate
  third_none (source s) a = refl
  third_none (pick c q) a = third_none q a
  third_none (keep cs q) a = refl
  third_none (join m n q r) a = refl
  third_none (aggregate f c size offset q) a = absurd a

  figure_shown : (hs : List Grant) (cs : List Col) → T (within cs (figure ∷ [])) → T (every (shown_by d hs) cs)
  unfolding within every has some? shown_by
  figure_shown hs [] w = tt
  figure_shown hs (c ∷ cs) w =
      and_both (same_col c figure || some? (λ g. has (shown_of d g) c) hs) (every (shown_by d hs) cs)
      (or_cases (same_col c figure) false (search parts) (λ t. or_l (same_col c figure) _ t) (λ t. absurd t)) (figure_shown hs cs (search parts))

  -- above an aggregate every column that a pick names is shown
  third_picked : (q : Query ℕ) (c : Cond Compare) → T (allowed (columns_of d) q) → T (within (cond_cols c) (header (columns_of d) q))
      → select (λ ns. every (shown_by d (gs ns)) (cond_cols c)) (third_kind d who catalogue q) ≡ third_kind d who catalogue q
  unfolding third_kind allowed header
  third_picked (source s) c w h = unfold select in refl
  third_picked (pick e q) c w h = third_picked q c (search parts) h
  third_picked (keep cs q) c w h = unfold select in refl
  third_picked (join m n q r) c w h = unfold select in refl
  third_picked (aggregate f e size offset q) c w h = select_all _ (λ ns. figure_shown (gs ns) (cond_cols c) h) _

  -- ---- each form

  -- a test of the columns left
  found_showing : (q : Query ℕ) (cs : List Col) → T (placed d q) → T (within cs (header (columns_of d) q))
      → map (λ (r : Route). r.grants) (showing d cs (ways d who catalogue q)) ≡ select (λ ns. every (shown_by d (gs ns)) cs) (found q)
  unfolding showing
  found_showing q cs w h =
      select_grants (λ x. within cs (columns d x.query)) (λ ns. every (shown_by d (gs ns)) cs)
      (all_weaken (λ r e. ap (within cs) e ∙ within_left d (gs r.grants) q cs h) (way_columns d who catalogue q w))

  first_more : (q : Query ℕ) (cs : List Col) → select (λ ns. every (shown_by d (gs ns)) cs) (first_kind d who catalogue q)
      ≡ select (λ ns. every (shown_by d (gs ns)) ((cs ++ asked_cols q) ++ equal_cols q)) (for_each d who catalogue (sources q))
  unfolding first_kind
  first_more q cs =
      select_both (λ ns. every (shown_by d (gs ns)) cs) (λ ns. every (shown_by d (gs ns)) (asked_cols q ++ equal_cols q)) (for_each d who catalogue (sources q))
      ∙ select_same _ _ (all_weaken (λ ns u. sym (ap (every (shown_by d (gs ns))) (append_assoc cs (asked_cols q) (equal_cols q)) ∙ every_append_same (shown_by d (gs ns)) cs (asked_cols q ++ equal_cols q))) (all_any (for_each d who catalogue (sources q))))

  second_more : (q : Query ℕ) (cs : List Col) → select (λ ns. every (shown_by d (gs ns)) cs) (second_kind d who catalogue q)
      ≡ cond (single (sources q)) [] (numbers d who catalogue reads (sources q) (λ g. has_equality q g && (every (shown_by d (g ∷ [])) (cs ++ asked_cols q) && not (some? timed (side_picks q)))))
  unfolding second_kind
  second_more q cs = go (single (sources q))
    where
      shuffle : (e a b u : Bool) → (e && (a && u)) && b ≡ e && ((b && a) && u)
      shuffle true true true u = and_swap u true
      shuffle true true false true = refl
      shuffle true true false false = refl
      shuffle true false true u = refl
      shuffle true false false u = refl
      shuffle false a b u = refl

      go : (b : Bool) → select (λ ns. every (shown_by d (gs ns)) cs) (cond b [] (numbers d who catalogue reads (sources q) (λ g. has_equality q g && (every (shown_by d (g ∷ [])) (asked_cols q) && not (some? timed (side_picks q))))))
          ≡ cond b [] (numbers d who catalogue reads (sources q) (λ g. has_equality q g && (every (shown_by d (g ∷ [])) (cs ++ asked_cols q) && not (some? timed (side_picks q)))))
      go true = unfold select in refl
      go false =
          numbers_select reads (sources q) _ (λ hs. every (shown_by d hs) cs)
          ∙ numbers_same reads (sources q) _ _ (λ g t. shuffle (has_equality q g) (every (shown_by d (g ∷ [])) (asked_cols q)) (every (shown_by d (g ∷ [])) cs) (not (some? timed (side_picks q)))
          ∙ ap (λ b. has_equality q g && (b && not (some? timed (side_picks q)))) (sym (every_append_same (shown_by d (g ∷ [])) cs (asked_cols q))))

  -- ---- a join

  module _ (a b : Col) (q r : Query ℕ) (w : T (allowed (columns_of d) (join a b q r))) (u : T (distinct eqb (sources q ++ sources r))) where
    abbrev x₀ : Record
    x₀ = record { clock = 0; schema = d; rows = [] }

    abbrev Own : List ℕ → List Grant → Type 0
    Own ss hs = All (λ (g : Grant). T (within (shown_of d g) (gather (columns_of d) ss))) hs

    side_q : T (side q)
    unfolding allowed
    side_q = search parts

    side_r : T (side r)
    unfolding allowed
    side_r = search parts

    module _ (hs is : List Grant) (own-q : Own (sources q) hs) (own_r : Own (sources r) is) where
      -- a column of one side is shown by that side's grants
      of_q : (c : Col) → T (has (gather (columns_of d) (sources q)) c) → shown_by d (hs ++ is) c ≡ shown_by d hs c
      of_q c t = shown_l d hs is c (none_show d c _ (λ v. apart x₀ who a b q r w u c t v) own_r)

      of_r : (c : Col) → T (has (gather (columns_of d) (sources r)) c) → shown_by d (hs ++ is) c ≡ shown_by d is c
      of_r c t = shown_r d hs is c (none_show d c _ (λ v. apart x₀ who a b q r w u c v t) own-q)

      head_q : (c : Col) → T (has (header (columns_of d) q) c) → T (has (gather (columns_of d) (sources q)) c)
      unfolding allowed
      head_q c t = has_within c _ (header (columns_of d) q) (header_in d q (side_free q side_q) (search parts)) t

      head_r : (c : Col) → T (has (header (columns_of d) r) c) → T (has (gather (columns_of d) (sources r)) c)
      unfolding allowed
      head_r c t = has_within c _ (header (columns_of d) r) (header_in d r (side_free r side_r) (search parts)) t

      linked_left : linked a b (left d hs q) (left d is r) ≡ shown_by d (hs ++ is) a && shown_by d (hs ++ is) b
      unfolding linked left allowed
      linked_left =
          ap₂ (λ m n. m || n) (ap₂ ◌&&◌ (has_select_both (shown_by d hs) a (header (columns_of d) q)) (has_select_both (shown_by d is) b (header (columns_of d) r)))
          (ap₂ ◌&&◌ (has_select_both (shown_by d hs) b (header (columns_of d) q)) (has_select_both (shown_by d is) a (header (columns_of d) r)))
          ∙ linked_shown (has (header (columns_of d) q) a) (has (header (columns_of d) r) b) (has (header (columns_of d) q) b) (has (header (columns_of d) r) a)
          (shown_by d hs a) (shown_by d is b) (shown_by d hs b) (shown_by d is a) (shown_by d (hs ++ is) a) (shown_by d (hs ++ is) b) (search parts)
          (heads_apart x₀ who a b q r w u a) (heads_apart x₀ who a b q r w u b)
          (λ t. of_q a (head_q a t)) (λ t. of_r b (head_r b t)) (λ t. of_q b (head_q b t)) (λ t. of_r a (head_r a t))

      all_named : every (shown_by d (hs ++ is)) ((asked_cols q ++ asked_cols r) ++ (a ∷ b ∷ []))
          ≡ every (shown_by d hs) (asked_cols q ++ equal_cols q) && (linked a b (left d hs q) (left d is r) && every (shown_by d is) (asked_cols r ++ equal_cols r))
      unfolding allowed every
      all_named =
          every_append_same (shown_by d (hs ++ is)) (asked_cols q ++ asked_cols r) (a ∷ b ∷ [])
          ∙ ap (λ m. m && (shown_by d (hs ++ is) a && (shown_by d (hs ++ is) b && true))) (every_append_same (shown_by d (hs ++ is)) (asked_cols q) (asked_cols r))
          ∙ shuffle (every (shown_by d (hs ++ is)) (asked_cols q)) (every (shown_by d (hs ++ is)) (asked_cols r)) (shown_by d (hs ++ is) a) (shown_by d (hs ++ is) b)
          ∙ ap₂ ◌&&◌ (every_same _ _ (all_by (asked_cols q) (λ c t. of_q c (has_within c _ (asked_cols q) (asked_in d q side_q (search parts)) t))) ∙ ap (every (shown_by d hs)) (whole q side_q))
          (ap₂ ◌&&◌ (sym linked_left) (every_same _ _ (all_by (asked_cols r) (λ c t. of_r c (has_within c _ (asked_cols r) (asked_in d r side_r (search parts)) t))) ∙ ap (every (shown_by d is)) (whole r side_r)))
        where
          shuffle : (i j m n : Bool) → (i && j) && (m && (n && true)) ≡ i && ((m && n) && j)
          shuffle false j m n = refl
          shuffle true j m n = ap (λ v. j && (m && v)) (sym (and_true n)) ∙ and_swap j (m && n)

          whole : (q : Query ℕ) → T (side q) → asked_cols q ≡ asked_cols q ++ equal_cols q
          whole q s = sym (ap (λ cs. asked_cols q ++ cs) (side_equal q s) ∙ append_nil (asked_cols q))

    first_join : gather (λ ns. map (λ ms. ns ++ ms) (select (λ ms. linked a b (left d (gs ns) q) (left d (gs ms) r)) (first_kind d who catalogue r))) (first_kind d who catalogue q)
        ≡ first_kind d who catalogue (join a b q r)
    unfolding first_kind asked_cols equal_cols sources
    first_join =
        gather_select (λ ns. map (λ ms. ns ++ ms) (select (λ ms. linked a b (left d (gs ns) q) (left d (gs ms) r)) (select of_right rights))) of_left lefts
        ∙ gather_same (all_weaken (λ ns h.
        ap (λ l. cond (of_left ns) (map (λ ms. ns ++ ms) l) []) (select_both (λ ms. linked a b (left d (gs ns) q) (left d (gs ms) r)) of_right rights)
        ∙ select_before (λ ms. ns ++ ms) (of_left ns) _ (λ ms. of_both (ns ++ ms)) (all_weaken (λ ms k. ap (λ js. every (shown_by d js) named) (grants_append catalogue ns ms) ∙ all_named (gs ns) (gs ms) h k) (inside (sources r))))
        (inside (sources q)))
        ∙ sym (ap (select of_both) (for_each_append (sources q) (sources r))
        ∙ select_gather of_both (λ ns. map (λ ms. ns ++ ms) rights) lefts
        ∙ gather_same (all_weaken (λ ns h. select_map of_both (λ ms. ns ++ ms) rights) (all_any lefts)))
      where
        named : List Col
        named = (asked_cols q ++ asked_cols r) ++ (a ∷ b ∷ [])

        lefts : List (List ℕ)
        lefts = for_each d who catalogue (sources q)

        rights : List (List ℕ)
        rights = for_each d who catalogue (sources r)

        of_left : List ℕ → Bool
        of_left ns = every (shown_by d (gs ns)) (asked_cols q ++ equal_cols q)

        of_right : List ℕ → Bool
        of_right ns = every (shown_by d (gs ns)) (asked_cols r ++ equal_cols r)

        of_both : List ℕ → Bool
        of_both ns = every (shown_by d (gs ns)) named

    second_join : map (λ (x : Route). x.grants) (map (alone (over_view d (join a b q r))) (opened who catalogue (readable d (join a b q r)))) ≡ second_kind d who catalogue (join a b q r)
    unfolding second_kind asked_cols side_picks sources
    second_join =
        opened_numbers (over_view d (join a b q r)) (readable d (join a b q r)) reads (sources q ++ sources r) _ test
        ∙ sym (ap (λ c. cond c [] (numbers d who catalogue reads (sources q ++ sources r) asks)) (single_two (sources q) (sources r) (stream q) (stream r) (side_sources q side_q) (side_sources r side_r)))
      where
        asks : Grant → Bool
        asks g = has_equality (join a b q r) g && (every (shown_by d (g ∷ [])) (asked_cols q ++ asked_cols r) && not (some? timed (picks q ++ picks r)))

        shuffle : (i s e n v : Bool) → i && ((s && e) && (n && v)) ≡ i && (s && (e && (v && n)))
        shuffle false s e n v = refl
        shuffle true false e n v = refl
        shuffle true true e n v = ap (λ z. e && z) (and_swap n v)

        named : asked_cols q ++ asked_cols r ≡ gather cond_cols (picks q ++ picks r)
        named = ap₂ ◌++◌ (side_asked q side_q) (side_asked r side_r) ∙ sym (gather_append cond_cols (picks q) (picks r))

        in_streams : T (within (asked_cols q ++ asked_cols r) (gather (columns_of d) (sources q ++ sources r)))
        in_streams =
            rw (gather_append (columns_of d) (sources q) (sources r))
            (within_both (asked_cols q) (asked_cols r) _
            (within_by (asked_cols q) _ (λ c t. has_append_l c (gather (columns_of d) (sources q)) _ (has_within c _ (asked_cols q) (asked_in d q side_q (unfold allowed in search parts)) t)))
            (within_by (asked_cols r) _ (λ c t. has_append_r c (gather (columns_of d) (sources q)) _ (has_within c _ (asked_cols r) (asked_in d r side_r (unfold allowed in search parts)) t))))

        shown_same : (g : Grant) → within (gather cond_cols (picks q ++ picks r)) (shown_of d g) ≡ every (shown_by d (g ∷ [])) (asked_cols q ++ asked_cols r)
        shown_same g =
            ap (λ cs. within cs (shown_of d g)) (sym named)
            ∙ unfold within in every_same _ _ (all_by (asked_cols q ++ asked_cols r) (λ c t. sym (one_shows d g (sources q ++ sources r) c (has_within c _ (asked_cols q ++ asked_cols r) in_streams t))))

        test : (g : Grant) → readable d (join a b q r) g ≡ reads g.right && (same_list g.of (sources q ++ sources r) && asks g)
        test g =
            unfold readable covers sources picks in
            ap₂ (λ e v. reads g.right && ((same_list g.of (sources q ++ sources r) && e) && (not (some? timed (picks q ++ picks r)) && v))) (equated_same (columns_of d) (join a b q r) g w) (shown_same g)
            ∙ shuffle (reads g.right) (same_list g.of (sources q ++ sources r)) (has_equality (join a b q r) g) (not (some? timed (picks q ++ picks r))) (every (shown_by d (g ∷ [])) (asked_cols q ++ asked_cols r))

  -- ---- every form

  abbrev all_kinds : Query ℕ → List (List ℕ)
  all_kinds q = first_kind d who catalogue q ++ (second_kind d who catalogue q ++ third_kind d who catalogue q)

  second_none : (q : Query ℕ) → T (side q) → second_kind d who catalogue q ≡ []
  unfolding second_kind
  second_none q w = none (single (sources q)) (rw (side_sources q w) (unfold single in tt)) _
    where
      none : (b : Bool) → T b → (l : List (List ℕ)) → cond b [] l ≡ []
      none true t l = refl
      none false t l = absurd t

  side_kinds : (q : Query ℕ) → T (side q) → all_kinds q ≡ first_kind d who catalogue q
  side_kinds q w = ap₂ (λ l m. first_kind d who catalogue q ++ (l ++ m)) (second_none q w) (third_none q (side_free q w)) ∙ append_nil (first_kind d who catalogue q)

  placed_in : (q r : Query ℕ) → T (placed d r) → (T (allowed (columns_of d) r) → T (allowed (columns_of d) q)) → (T (distinct eqb (sources r)) → T (distinct eqb (sources q))) → T (placed d q)
  unfolding placed
  placed_in q r w f g = and_both (allowed (columns_of d) q) (distinct eqb (sources q)) (f (search parts)) (g (search parts))

  found_source : (s : ℕ) → found (source s) ≡ all_kinds (source s)
  unfolding ways first_kind second_kind third_kind asked_cols equal_cols sources single for_each every
  found_source s =
      opened_numbers (seen (source s)) (readable d (source s)) reads (s ∷ []) (λ g. true) test
      ∙ sym (append_nil _ ∙ select_all _ (λ ns. tt) _ ∙ gather_same (all_weaken (λ ns u. ap (λ l. l ∷ []) (append_nil ns)) (all_any theirs)) ∙ gather_ones theirs)
    where
      theirs : List (List ℕ)
      theirs = numbers d who catalogue reads (s ∷ []) (λ g. true)

      test : (g : Grant) → readable d (source s) g ≡ reads g.right && (same_list g.of (s ∷ []) && true)
      test g = unfold readable covers equated picks some? gather within every in ap (λ b. reads g.right && b) (sym (and_true (same_list g.of (s ∷ []) && true)))

  found_pick : (c : Cond Compare) (q : Query ℕ) → T (placed d q) → T (within (cond_cols c) (header (columns_of d) q)) → found q ≡ all_kinds q → found (pick c q) ≡ all_kinds (pick c q)
  unfolding ways onto third_kind
  found_pick c q w h e =
      map-map (λ (r : Route). r.grants) (onto (pick c)) (showing d (cond_cols c) (ways d who catalogue q))
      ∙ found_showing q (cond_cols c) w h
      ∙ ap (select t) e
      ∙ select_append t (first_kind d who catalogue q) (second_kind d who catalogue q ++ third_kind d who catalogue q)
      ∙ ap₂ ◌++◌ first
      (select_append t (second_kind d who catalogue q) (third_kind d who catalogue q)
      ∙ ap₂ ◌++◌ second (third_picked q c (unfold placed in search parts) h))
    where
      first : select (λ ns. every (shown_by d (gs ns)) (cond_cols c)) (first_kind d who catalogue q) ≡ first_kind d who catalogue (pick c q)
      first = unfold first_kind asked_cols equal_cols sources in first_more q (cond_cols c)

      second : select (λ ns. every (shown_by d (gs ns)) (cond_cols c)) (second_kind d who catalogue q) ≡ second_kind d who catalogue (pick c q)
      second = unfold second_kind has_equality joins_by asked_cols side_picks sources in second_more q (cond_cols c)

      t : List ℕ → Bool
      t ns = every (shown_by d (gs ns)) (cond_cols c)

  found_keep : (cs : List Col) (q : Query ℕ) → T (no_aggregate q) → found q ≡ all_kinds q → found (keep cs q) ≡ all_kinds (keep cs q)
  unfolding ways onto first_kind second_kind third_kind has_equality joins_by asked_cols equal_cols side_picks sources
  found_keep cs q a e =
      map-map (λ (r : Route). r.grants) (onto (keeping d cs)) (ways d who catalogue q)
      ∙ e ∙ ap (λ l. first_kind d who catalogue q ++ (second_kind d who catalogue q ++ l)) (third_none q a)

  found_join : (a b : Col) (q r : Query ℕ) → T (placed d (join a b q r)) → found q ≡ all_kinds q → found r ≡ all_kinds r → T (placed d q) → T (placed d r) → found (join a b q r) ≡ all_kinds (join a b q r)
  unfolding ways beside third_kind
  found_join a b q r w e f v z =
      map-append (λ (x : Route). x.grants) sides (map (alone (over_view d (join a b q r))) (opened who catalogue (readable d (join a b q r))))
      ∙ ap₂ ◌++◌ (side_by_side ∙ first_join a b q r allowed_q distinct_q) (second_join a b q r allowed_q distinct_q ∙ sym (append_nil _))
    where
      allowed_q : T (allowed (columns_of d) (join a b q r))
      allowed_q = unfold placed in search parts

      distinct_q : T (distinct eqb (sources q ++ sources r))
      distinct_q = unfold placed sources in search parts

      sides : List Route
      sides = gather (λ x. map (beside a b x) (select (λ y. linked a b (columns d x.query) (columns d y.query)) (ways d who catalogue r))) (ways d who catalogue q)

      side_by_side : map (λ (x : Route). x.grants) sides
          ≡ gather (λ ns. map (λ ms. ns ++ ms) (select (λ ms. linked a b (left d (gs ns) q) (left d (gs ms) r)) (first_kind d who catalogue r))) (first_kind d who catalogue q)
      side_by_side =
          map_gather (λ (x : Route). x.grants) (λ x. map (beside a b x) (select (λ y. linked a b (columns d x.query) (columns d y.query)) (ways d who catalogue r))) (ways d who catalogue q)
          ∙ gather_same (all_weaken (λ x i.
          map-map (λ (y : Route). y.grants) (beside a b x) (select (λ y. linked a b (columns d x.query) (columns d y.query)) (ways d who catalogue r))
          ∙ sym (map-map (λ ms. x.grants ++ ms) (λ (y : Route). y.grants) (select (λ y. linked a b (columns d x.query) (columns d y.query)) (ways d who catalogue r)))
          ∙ ap (map (λ ms. x.grants ++ ms)) (select_grants (λ y. linked a b (columns d x.query) (columns d y.query)) (λ ms. linked a b (left d (gs x.grants) q) (left d (gs ms) r))
          (all_weaken (λ y j. ap₂ (linked a b) i j) (way_columns d who catalogue r z))))
          (way_columns d who catalogue q v))
          ∙ sym (gather_map (λ ns. map (λ ms. ns ++ ms) (select (λ ms. linked a b (left d (gs ns) q) (left d (gs ms) r)) (found r))) (λ (x : Route). x.grants) (ways d who catalogue q))
          ∙ ap₂ (λ l m. gather (λ ns. map (λ ms. ns ++ ms) (select (λ ms. linked a b (left d (gs ns) q) (left d (gs ms) r)) m)) l) (e ∙ side_kinds q (side_q a b q r allowed_q distinct_q)) (f ∙ side_kinds r (side_r a b q r allowed_q distinct_q))

  found_aggregate : (g : Fn) (c : Col) (size offset : ℕ) (q : Query ℕ) → T (placed d q) → T (no_aggregate q) → T (has (header (columns_of d) q) c) → found q ≡ all_kinds q
      → found (aggregate g c size offset q) ≡ all_kinds (aggregate g c size offset q)
  unfolding ways onto third_kind
  found_aggregate g c size offset q w a h e =
      map-append (λ (x : Route). x.grants) (map (onto (aggregate g c size offset)) (showing d (c ∷ []) (ways d who catalogue q))) _
      ∙ ap₂ ◌++◌
      (map-map (λ (r : Route). r.grants) (onto (aggregate g c size offset)) (showing d (c ∷ []) (ways d who catalogue q))
      ∙ found_showing q (c ∷ []) w (unfold within every in and_both (has (header (columns_of d) q) c) true h tt)
      ∙ ap (select t) (e ∙ ap (λ l. first_kind d who catalogue q ++ l) (ap (λ l. second_kind d who catalogue q ++ l) (third_none q a) ∙ append_nil (second_kind d who catalogue q)))
      ∙ select_append t (first_kind d who catalogue q) (second_kind d who catalogue q)
      ∙ ap₂ ◌++◌ first second)
      (opened_numbers (λ n. aggregate g c size offset (summed d q n)) (summing d g c size offset q) (gives g) (sources q) rest test)
      ∙ append_assoc (first_kind d who catalogue (aggregate g c size offset q)) (second_kind d who catalogue (aggregate g c size offset q)) _
    where
      t : List ℕ → Bool
      t ns = every (shown_by d (gs ns)) (c ∷ [])

      first : select (λ ns. every (shown_by d (gs ns)) (c ∷ [])) (first_kind d who catalogue q) ≡ first_kind d who catalogue (aggregate g c size offset q)
      first = unfold first_kind asked_cols equal_cols sources in first_more q (c ∷ [])

      second : select (λ ns. every (shown_by d (gs ns)) (c ∷ [])) (second_kind d who catalogue q) ≡ second_kind d who catalogue (aggregate g c size offset q)
      second = unfold second_kind has_equality joins_by asked_cols side_picks sources in second_more q (c ∷ [])

      rest : Grant → Bool
      rest k = has_equality q k && (empty? (picks q) && (has (shown_of d k) c && (leb k.size size && leb k.offset offset)))

      shuffle : (i s e v : Bool) → i && ((s && e) && v) ≡ i && (s && (e && v))
      shuffle false s e v = refl
      shuffle true false e v = refl
      shuffle true true e v = refl

      test : (k : Grant) → summing d g c size offset q k ≡ gives g k.right && (same_list k.of (sources q) && rest k)
      test k =
          unfold summing covers in
          ap (λ e. gives g k.right && ((same_list k.of (sources q) && e) && (empty? (picks q) && (has (shown_of d k) c && (leb k.size size && leb k.offset offset))))) (equated_same (columns_of d) q k (unfold placed in search parts))
          ∙ shuffle (gives g k.right) (same_list k.of (sources q)) (has_equality q k) _

  ways_found : (q : Query ℕ) → T (placed d q) → found q ≡ all_kinds q
  unfolding allowed sources
  ways_found (source s) w = found_source s
  ways_found (pick c q) w = let v = placed_in q (pick c q) w (λ h. search parts) (λ h. h) in found_pick c q v (unfold placed allowed in search parts) (ways_found q v)
  ways_found (keep cs q) w = let v = placed_in q (keep cs q) w (λ h. search parts) (λ h. h) in found_keep cs q (unfold placed allowed in search parts) (ways_found q v)
  ways_found (join a b q r) w =
      let v = placed_in q (join a b q r) w (λ h. search parts) (λ h. distinct_l eqb (sources q) (sources r) h) in
      let z = placed_in r (join a b q r) w (λ h. search parts) (λ h. distinct_r eqb (sources q) (sources r) h) in
      found_join a b q r w (ways_found q v) (ways_found r z) v z
  ways_found (aggregate f c size offset q) w =
      let v = placed_in q (aggregate f c size offset q) w (λ h. search parts) (λ h. h) in
      found_aggregate f c size offset q v (unfold placed allowed in search parts) (unfold placed allowed in search parts) (ways_found q v)

-- The routes of a query are those of the three kinds, one after the other, and no others.
pub routes_found : (d : Schema) (who : Caller) (catalogue : List Grant) (q : Query ℕ) → T (placed d q) → map (λ (r : Route). r.grants) (routes d who catalogue q) ≡ kinds d who catalogue q
unfolding routes kinds
routes_found d who catalogue q w =
    select_grants (λ x. not (empty? (columns d x.query))) (λ ns. not (empty? (left d (grants_at catalogue ns) q)))
    (all_weaken (λ r e. ap (λ cs. not (empty? cs)) e) (way_columns d who catalogue q w))
    ∙ ap (select (λ ns. not (empty? (left d (grants_at catalogue ns) q)))) (ways_found d who catalogue q w)
