-- The routes that opened grants give are those of the query, in their order.
use mathlib.Core.Path.{◌≡◌, refl, sym, ap, ap₂, ◌∙◌, subst}
use mathlib.Core.List.{List, [], ◌∷◌, ◌++◌, map, map-map, map-append}
use mathlib.Core.Bool.{Bool, true, false, ◌&&◌, ◌||◌, not, cond, and-false}
use Prim.Native.Nat.{ℕ, suc, ◌-◌, ◌≤◌, ◌<◌}
use native.Mathlib.Omega.{arith}
use lib.Bits.{bit_and, bit_or}
use lib.Dec.{T, eqb, eqb→eq}
use lib.ListN.{length, get_or, length-map}
use borrow.Author.Tests.{eq-eqb, ne_eqb}
use Rattle.lists.specs.Lists.{select, every, some?, empty?, gather, same_list, distinct}
use Rattle.lists.proofs.Laws.{same_list→eq, All, all_nil, all_cons, all_head, all_tail, all_any, all_both, all_select, all_weaken, all_append, all_map, all_gather, and_l, and_r, parts, T_true, append_nil, select_map, gather_same, map_same}
use Rattle.lists.proofs.Gathers.{select_append, gather_ones, gather_map, map_gather, select_gather, gather_select, select_none}
use Rattle.syntax.specs.Grammar.{Right}
use Rattle.model.specs.Queries.{Schema, Col, Query, sources, Grant, Caller}
use Rattle.model.specs.Grants.{belongs}
use Rattle.model.specs.Checks.{no_aggregate, timed, allowed, placed}
use Rattle.model.specs.Routes.{reads, gives, Numbered, Route, numbered, single, routes}
use Rattle.model.proofs.Asked.{shown_by, left, grants_at}
use Rattle.model.proofs.RouteKinds.{asked_cols, equal_cols, side_picks, has_equality, numbers, for_each, first_kind, second_kind, third_kind, kinds}
use Rattle.model.proofs.OneRow.{select_same, select_both, and_swap}
use Rattle.model.proofs.Ways.{numbered_at, grants_append}
use Rattle.model.proofs.Found.{routes_found}
use Rattle.schema.specs.Schemas.{schema_of}
use Rattle.grant.specs.Grants.{streams_of, grant_of, grant_sound}
use Rattle.grant.specs.Catalogues.{words_in, catalogue_of, sound_from}
use Rattle.grant.specs.declared.Grant as D
use Rattle.grant.proofs.Masked.{declared_stream}
use Rattle.grant.proofs.Valid.{sound_tidy}
use Rattle.needs.specs.Asking.{no_stream, needs_of}
use Rattle.needs.specs.declared.Needs.{Needs}
use Rattle.needs.proofs.Fields.{streams_are}
use Rattle.needs.proofs.Shapes.{Figured, none_there, one_there, figured_is, plain_picks}
use Rattle.openings.specs.Made.{made, lone_kind, made_by}
use Rattle.openings.proofs.Made.{route_of, routes_made}
use Rattle.routes.specs.declared.Open.{Open}
use Rattle.routes.specs.declared.Route as R
use Rattle.routes.specs.Opening.{streams_asked, caller_in, side_opened, right_opened, pair_opened, figures_opened}
use Rattle.routes.specs.Listing.{open_all, side_route, lone_route, gate_of, leaves_some, places_in, right_sides, side_routes, opened_routes, routes_by, routes_in, numbers_of}
use Rattle.routes.proofs.Listed.{by_kinds}
use Rattle.routes.proofs.Owned.{belongs_is, tidy_laid}
use Rattle.routes.proofs.Shown.{hs}
use Rattle.routes.proofs.Matched.{reads_is, one_left, two_left, lone_side, two_sides, pair_test, figures_test, asked_streams}
use Rattle.routes.proofs.Places.{Slot, slots, numbered_slots, sound_slots, slots_at, mine, left_places, right_places, pair_places, figures_places, Held, all_held, slots_below}

-- ---- lists

module _ {A B : Type 0} where
  pub all_unmap : {P : B → Type 0} (f : A → B) (xs : List A) → All P (map f xs) → All (λ x. P (f x)) xs
  all_unmap f [] h = all_nil
  all_unmap f (x ∷ xs) h = all_cons (all_head h) (all_unmap f xs (all_tail h))

  -- a test made before
  cond_select : (b : Bool) (f : A → B) (p : A → Bool) (xs : List A) → cond b (map f (select p xs)) [] ≡ map f (select (λ x. b && p x) xs)
  cond_select true f p xs = refl
  cond_select false f p xs = sym (ap (map f) (select_none xs))

map_each : {A B : Type 0} (f g : A → B) → ((x : A) → f x ≡ g x) → (xs : List A) → map f xs ≡ map g xs
map_each f g e [] = refl
map_each f g e (x ∷ xs) = ap₂ ◌∷◌ (e x) (map_each f g e xs)

-- ---- a route's grants

-- A place of a catalogue: its grant is sound, and the numbers in the place of opened grants are its own.
pub record Standing (ns ws : List ℕ) (o : Open) (gs : List D.Grant) (z : D.Grant) (i : ℕ) : Type 0 where
  pub within : i < length gs
  pub sound : T (grant_sound ns (get_or gs i z) (words_in ws i))
  pub held : Held o i (get_or gs i z)

-- by the kind of a route, the streams of the grants in its places
pub data Granting (q : Query ℕ) (placed_grant : ℕ → Grant) (x : R.Route) : Type 0 where
  on_one : (s : ℕ) → x.kind ≡ 1 → x.right ≡ x.left → sources q ≡ s ∷ [] → (placed_grant x.left).of ≡ s ∷ [] → Granting q placed_grant x
  on_two : (s t : ℕ) → x.kind ≡ 1 → sources q ≡ s ∷ (t ∷ []) → (placed_grant x.left).of ≡ s ∷ [] → (placed_grant x.right).of ≡ t ∷ [] → Granting q placed_grant x
  on_both : x.kind ≡ 2 → x.right ≡ x.left → length (sources q) ≡ 2 → (placed_grant x.left).of ≡ sources q → Granting q placed_grant x
  on_told : x.kind ≡ 3 → x.right ≡ x.left → T (not (no_aggregate q)) → (placed_grant x.left).of ≡ sources q → Granting q placed_grant x

-- ---- the routes of a query

module _ (ns ws roles profile : List ℕ) (gs : List D.Grant) (q : Query ℕ) (p : T (placed (schema_of ns) q)) (b : T (every (declared_stream ns) (sources q)))
    (sound : T (sound_from ns ws 0 gs)) (few : length gs ≤ 24) where
  abbrev d : Schema
  d = schema_of ns

  abbrev who : Caller
  who = caller_in roles profile

  abbrev cat : List Grant
  cat = catalogue_of ns gs ws

  abbrev n : Needs
  n = needs_of ns q

  abbrev o : Open
  o = open_all n ws roles profile gs

  abbrev ss : List Slot
  ss = slots ws 0 gs

  abbrev G : Slot → Grant
  G s = grant_of ns s.grant s.words

  may : T (allowed (hs ns) q)
  unfolding placed
  may = search parts

  once : T (distinct eqb (sources q))
  unfolding placed
  once = search parts

  -- ---- what is known of each grant

  record Known (s : Slot) : Type 0 where
    safe : T (grant_sound ns s.grant s.words)
    within : s.place < length gs
    held : Held o s.place s.grant
    at : grants_at cat (suc s.place ∷ []) ≡ G s ∷ []

  numbered_are : numbered 1 cat ≡ map (λ (s : Slot). record { no = suc s.place; grant = G s }) ss
  unfolding catalogue_of
  numbered_are = numbered_slots ns ws 0 gs

  all_known : All Known ss
  all_known =
      all_weaken (λ s h. let l = h.0.0.1 in record { safe = h.0.0.0; within = omega arith; held = h.0.1; at = h.1 })
      (all_both (all_both (all_both (sound_slots ns ws 0 gs sound) (slots_below ws 0 gs)) (all_held n ws roles profile gs few))
      (all_unmap (λ (s : Slot). record { no = suc s.place; grant = G s }) ss (subst (All (λ (m : Numbered). grants_at cat (m.no ∷ []) ≡ m.grant ∷ [])) numbered_are (numbered_at cat))))

  -- it is the caller's
  theirs : (s : Slot) → Known s → mine n ws roles profile s ≡ belongs who (G s)
  theirs s k = belongs_is ns s.grant s.words roles profile (tidy_laid ns s.grant s.words (sound_tidy ns s.grant s.words k.safe))

  -- a column is left by two grants
  abbrev leaves : Slot → Slot → Bool
  leaves s t = not (eqb n.aggregate 0) || not (eqb (bit_and (bit_or s.grant.shown t.grant.shown) n.header) 0)

  leaves_known : (s t : Slot) → Known s → Known t → (x : R.Route) → x.left ≡ s.place → x.right ≡ t.place → leaves_some (gate_of o n) o.shown x ≡ leaves s t
  unfolding leaves_some gate_of
  leaves_known s t k l x e f =
      ap₂ (λ y z. not (eqb n.aggregate 0) || not (eqb (bit_and (bit_or y z) n.header) 0)) (ap (λ i. get_or o.shown i 0) e ∙ k.held.shown) (ap (λ i. get_or o.shown i 0) f ∙ l.held.shown)

  abbrev one : Slot → List ℕ
  one s = suc s.place ∷ []

  abbrev L : List ℕ → Bool
  L ms = not (empty? (left d (grants_at cat ms) q))

  L_one : (s : Slot) → Known s → L (one s) ≡ leaves s s
  L_one s k = ap (λ hs. not (empty? (left d hs q))) k.at ∙ one_left ns q may b s.grant s.words k.safe

  grants_two : (s t : Slot) → Known s → Known t → grants_at cat (suc s.place ∷ (suc t.place ∷ [])) ≡ G s ∷ (G t ∷ [])
  grants_two s t k l = grants_append cat (one s) (one t) ∙ ap₂ ◌++◌ k.at l.at

  -- the caller's grants that pass a test, by number
  numbers_are : (r : Right → Bool) (ts : List ℕ) (t : Grant → Bool) → numbers d who cat r ts t ≡ map one (select (λ (s : Slot). belongs who (G s) && (r (G s).right && (same_list (G s).of ts && t (G s)))) ss)
  unfolding numbers
  numbers_are r ts t =
      ap (λ l. map (λ (m : Numbered). m.no ∷ []) (select (λ (m : Numbered). belongs who m.grant && (r m.grant.right && (same_list m.grant.of ts && t m.grant))) l)) numbered_are
      ∙ ap (map (λ (m : Numbered). m.no ∷ [])) (select_map _ (λ (s : Slot). record { no = suc s.place; grant = G s }) ss)
      ∙ map-map (λ (m : Numbered). m.no ∷ []) (λ (s : Slot). record { no = suc s.place; grant = G s }) (select (λ (s : Slot). belongs who (G s) && (r (G s).right && (same_list (G s).of ts && t (G s)))) ss)

  -- a further test of these
  numbers_left : (u : List ℕ → Bool) (v : Slot → Bool) (r : Right → Bool) (ts : List ℕ) (t : Grant → Bool) (x : Slot → Bool) → ((s : Slot) → Known s → u (one s) ≡ v s)
      → ((s : Slot) → Known s → x s ≡ (v s && (belongs who (G s) && (r (G s).right && (same_list (G s).of ts && t (G s))))))
      → select u (numbers d who cat r ts t) ≡ map one (select x ss)
  numbers_left u v r ts t x f g =
      ap (select u) (numbers_are r ts t)
      ∙ select_map u one (select (λ (s : Slot). belongs who (G s) && (r (G s).right && (same_list (G s).of ts && t (G s)))) ss)
      ∙ ap (map one) (select_both (λ s. u (one s)) (λ (s : Slot). belongs who (G s) && (r (G s).right && (same_list (G s).of ts && t (G s)))) ss
      ∙ select_same _ x (all_weaken (λ s k. ap (λ y. y && (belongs who (G s) && (r (G s).right && (same_list (G s).of ts && t (G s))))) (f s k) ∙ sym (g s k)) all_known))

  -- ---- routes with one grant

  lone_numbers : (k i : ℕ) → (k ≡ 1 → ⊥) → numbers_of n (lone_route k i) ≡ suc i ∷ []
  unfolding numbers_of
  lone_numbers k i e = rw (ne_eqb k 1 e)

  lone_map : (k : ℕ) → ((i : ℕ) → numbers_of n (lone_route k i) ≡ suc i ∷ []) → (xs : List Slot) → map (λ i. numbers_of n (lone_route k i)) (map (λ (s : Slot). s.place) xs) ≡ map one xs
  lone_map k e xs = map-map (λ i. numbers_of n (lone_route k i)) (λ (s : Slot). s.place) xs ∙ map_each (λ (s : Slot). numbers_of n (lone_route k s.place)) one (λ s. e s.place) xs

  -- of places that are those of some grants, the ones that pass a test
  places_left : (test : Slot → Bool) (js : List ℕ) (u : ℕ → Bool) (v : Slot → Bool) → js ≡ map (λ (s : Slot). s.place) (select test ss) → ((s : Slot) → Known s → u s.place ≡ v s)
      → select u js ≡ map (λ (s : Slot). s.place) (select (λ s. v s && test s) ss)
  places_left test js u v e f =
      ap (select u) e ∙ select_map u (λ (s : Slot). s.place) (select test ss)
      ∙ ap (map (λ (s : Slot). s.place)) (select_both (λ (s : Slot). u s.place) test ss ∙ select_same _ _ (all_weaken (λ s k. ap (λ y. y && test s) (f s k)) all_known))

  abbrev leaving : R.Route → Bool
  leaving x = leaves_some (gate_of o n) o.shown x

  lone_list : (k : ℕ) → ((i : ℕ) → numbers_of n (lone_route k i) ≡ suc i ∷ []) → (mask : ℕ) (test : Slot → Bool) → places_in mask ≡ map (λ (s : Slot). s.place) (select test ss)
      → map (numbers_of n) (select leaving (map (lone_route k) (places_in mask))) ≡ map one (select (λ s. leaves s s && test s) ss)
  lone_list k m mask test e =
      ap (map (numbers_of n)) (select_map leaving (lone_route k) (places_in mask))
      ∙ map-map (numbers_of n) (lone_route k) (select (λ i. leaving (lone_route k i)) (places_in mask))
      ∙ ap (map (λ i. numbers_of n (lone_route k i)))
      (places_left test (places_in mask) (λ i. leaving (lone_route k i)) (λ s. leaves s s) e (λ s h. leaves_known s s h h (lone_route k s.place) refl refl))
      ∙ lone_map k m (select (λ s. leaves s s && test s) ss)

  -- where no grant opens them
  none_left : (f : Slot → Bool) → ((s : Slot) → f s ≡ false) → map one (select (λ s. leaves s s && (mine n ws roles profile s && f s)) ss) ≡ []
  none_left f e =
      ap (map one) (select_same _ (λ s. false) (all_weaken (λ s u. ap (λ x. leaves s s && (mine n ws roles profile s && x)) (e s)
      ∙ ap (λ x. leaves s s && x) (and-false (mine n ws roles profile s)) ∙ and-false (leaves s s)) (all_any ss)) ∙ select_none ss)

  -- ---- second and third kinds

  abbrev on_pair : Slot → Bool
  on_pair s = mine n ws roles profile s && pair_opened n s.grant s.words

  abbrev on_figures : Slot → Bool
  on_figures s = mine n ws roles profile s && figures_opened n s.grant s.words

  pair_numbers : (i : ℕ) → numbers_of n (lone_route 2 i) ≡ suc i ∷ []
  pair_numbers i = lone_numbers 2 i (λ e. omega arith)

  figures_numbers : (i : ℕ) → numbers_of n (lone_route 3 i) ≡ suc i ∷ []
  figures_numbers i = lone_numbers 3 i (λ e. omega arith)

  second_agrees : map (numbers_of n) (select leaving (map (lone_route 2) (places_in o.pair))) ≡ select L (second_kind d who cat q)
  second_agrees = lone_list 2 pair_numbers o.pair on_pair (pair_places n ws roles profile gs few) ∙ go (single (sources q)) refl
    where
      go : (x : Bool) → single (sources q) ≡ x → map one (select (λ s. leaves s s && on_pair s) ss) ≡ select L (second_kind d who cat q)
      go true e = none_left (λ (s : Slot). pair_opened n s.grant s.words) (λ s. shut s ((streams_are ns (hs ns) q may b).lone (rw e tt)).1) ∙ sym lone_second
        where
          shut : (s : Slot) → n.right ≡ no_stream → pair_opened n s.grant s.words ≡ false
          shut s f = unfold pair_opened in rw (eq-eqb n.right no_stream f)

          lone_second : select L (second_kind d who cat q) ≡ []
          lone_second = unfold second_kind select in rw e
      go false e =
          sym (two_second ∙ numbers_left L (λ s. leaves s s) reads (sources q) _ (λ s. leaves s s && on_pair s) L_one
          (λ s k. ap₂ (λ x y. leaves s s && (x && y)) (theirs s k) (pair_test ns q may b s.grant s.words k.safe e)))
        where
          two_second : select L (second_kind d who cat q)
              ≡ select L (numbers d who cat reads (sources q) (λ g. has_equality q g && (every (shown_by d (g ∷ [])) (asked_cols q) && not (some? timed (side_picks q)))))
          two_second = unfold second_kind in ap (λ x. select L (cond x [] (numbers d who cat reads (sources q) (λ g. has_equality q g && (every (shown_by d (g ∷ [])) (asked_cols q) && not (some? timed (side_picks q))))))) e

  third_agrees : map (numbers_of n) (select leaving (map (lone_route 3) (places_in o.figures))) ≡ select L (third_kind d who cat q)
  third_agrees = lone_list 3 figures_numbers o.figures on_figures (figures_places n ws roles profile gs few) ∙ go (figured_is ns q may)
    where
      go : Figured ns q → map one (select (λ s. leaves s s && on_figures s) ss) ≡ select L (third_kind d who cat q)
      go (none_there a e k) = none_left (λ (s : Slot). figures_opened n s.grant s.words) shut ∙ sym (ap (select L) (k who cat) ∙ nothing)
        where
          nothing : select L [] ≡ []
          nothing = unfold select in refl

          shut : (s : Slot) → figures_opened n s.grant s.words ≡ false
          shut s = unfold figures_opened in rw (eq-eqb n.aggregate 0 e)
      go (one_there {f} {c} {q'} k) =
          sym (ap (select L) (k.routes who cat)
          ∙ numbers_left L (λ s. leaves s s) (gives f) (sources q') _ (λ s. leaves s s && on_figures s) L_one
          (λ s h. ap₂ (λ x y. leaves s s && (x && y)) (theirs s h) (figures_test ns q may b s.grant s.words h.safe f c q' k)))

  -- ---- first kind

  for_one : (s : ℕ) → for_each d who cat (s ∷ []) ≡ numbers d who cat reads (s ∷ []) (λ g. true)
  unfolding for_each
  for_one s = gather_same (all_weaken (λ ms u. ap (λ l. l ∷ []) (append_nil ms)) (all_any (numbers d who cat reads (s ∷ []) (λ g. true)))) ∙ gather_ones (numbers d who cat reads (s ∷ []) (λ g. true))

  abbrev named : List Col
  named = asked_cols q ++ equal_cols q

  abbrev S : List ℕ → Bool
  S ms = every (shown_by d (grants_at cat ms)) named

  abbrev on_left : Slot → Bool
  on_left s = mine n ws roles profile s && side_opened n s.grant n.left

  abbrev on_right : Slot → Bool
  on_right s = mine n ws roles profile s && right_opened n s.grant

  left_first : (ts : List ℕ) → sources q ≡ ts → select L (first_kind d who cat q) ≡ select (λ ms. L ms && S ms) (for_each d who cat ts)
  unfolding first_kind
  left_first ts e = select_both L S (for_each d who cat (sources q)) ∙ ap (λ x. select (λ ms. L ms && S ms) (for_each d who cat x)) e

  -- one stream
  module _ (e : T (single (sources q))) where
    streams_lone : (sources q ≡ n.left ∷ []) × (n.right ≡ no_stream)
    streams_lone = (streams_are ns (hs ns) q may b).lone e

    right_alone : (i : ℕ) → right_sides (gate_of o n) i ≡ i ∷ []
    unfolding right_sides gate_of
    right_alone i = rw (eq-eqb n.right no_stream streams_lone.1)

    sides_lone : side_routes (gate_of o n) ≡ map (lone_route 1) (places_in o.left)
    unfolding side_routes gate_of
    sides_lone =
        gather_same (all_weaken (λ i u. ap (map (side_route i)) (right_alone i)) (all_any (places_in o.left)))
        ∙ sym (gather_map (λ x. x ∷ []) (lone_route 1) (places_in o.left)) ∙ gather_ones (map (lone_route 1) (places_in o.left))

    lone_side_numbers : (i : ℕ) → numbers_of n (lone_route 1 i) ≡ suc i ∷ []
    unfolding numbers_of
    lone_side_numbers i = rw (eq-eqb n.right no_stream streams_lone.1)

    lone_first : map (numbers_of n) (select leaving (side_routes (gate_of o n))) ≡ select L (first_kind d who cat q)
    lone_first =
        ap (λ l. map (numbers_of n) (select leaving l)) sides_lone
        ∙ lone_list 1 lone_side_numbers o.left on_left (left_places n ws roles profile gs few)
        ∙ sym (left_first (n.left ∷ []) streams_lone.0 ∙ ap (select (λ ms. L ms && S ms)) (for_one n.left)
        ∙ numbers_left (λ ms. L ms && S ms) (λ s. leaves s s && every (shown_by d (G s ∷ [])) named) reads (n.left ∷ []) (λ g. true) (λ s. leaves s s && on_left s)
        (λ s k. ap₂ ◌&&◌ (L_one s k) (ap (λ hs. every (shown_by d hs) named) k.at))
        (λ s k. ap₂ (λ x y. leaves s s && (x && y)) (theirs s k)
        (lone_side ns q may b s.grant s.words k.safe e ∙ ap (λ ts. reads (G s).right && (same_list (G s).of ts && every (shown_by d (G s ∷ [])) named)) streams_lone.0)
        ∙ turn (leaves s s) (belongs who (G s)) (reads (G s).right) (same_list (G s).of (n.left ∷ [])) (every (shown_by d (G s ∷ [])) named)))
      where
        turn : (l m r x e : Bool) → (l && (m && (r && (x && e)))) ≡ ((l && e) && (m && (r && (x && true))))
        turn false m r x e = refl
        turn true true true true true = refl
        turn true true true true false = refl
        turn true true true false true = refl
        turn true true true false false = refl
        turn true true false x true = refl
        turn true true false x false = refl
        turn true false r x true = refl
        turn true false r x false = refl

  -- two streams
  module _ (e : single (sources q) ≡ false) where
    streams_both : (sources q ≡ n.left ∷ (n.right ∷ [])) × (n.right < 4)
    streams_both = (streams_are ns (hs ns) q may b).both e

    right_some : eqb n.right no_stream ≡ false
    right_some = ne_eqb n.right no_stream (λ x. omega (arith, streams_both.1))

    abbrev two : Slot → Slot → List ℕ
    two s t = suc s.place ∷ (suc t.place ∷ [])

    sides_both : side_routes (gate_of o n) ≡ gather (λ i. map (side_route i) (places_in o.right)) (places_in o.left)
    unfolding side_routes right_sides gate_of
    sides_both = rw right_some

    two_numbers : (i j : ℕ) → numbers_of n (side_route i j) ≡ suc i ∷ (suc j ∷ [])
    unfolding numbers_of
    two_numbers i j = rw right_some

    abbrev row : ℕ → List R.Route
    row i = select leaving (map (side_route i) (places_in o.right))

    row_known : (s : Slot) → Known s → map (numbers_of n) (row s.place) ≡ map (two s) (select (λ t. leaves s t && on_right t) ss)
    row_known s k =
        ap (map (numbers_of n)) (select_map leaving (side_route s.place) (places_in o.right))
        ∙ map-map (numbers_of n) (side_route s.place) (select (λ j. leaving (side_route s.place j)) (places_in o.right))
        ∙ ap (map (λ j. numbers_of n (side_route s.place j)))
        (places_left on_right (places_in o.right) (λ j. leaving (side_route s.place j)) (λ t. leaves s t) (right_places n ws roles profile gs few)
        (λ t l. leaves_known s t k l (side_route s.place t.place) refl refl))
        ∙ map-map (λ j. numbers_of n (side_route s.place j)) (λ (t : Slot). t.place) (select (λ t. leaves s t && on_right t) ss)
        ∙ map_each (λ (t : Slot). numbers_of n (side_route s.place t.place)) (two s) (λ t. two_numbers s.place t.place) (select (λ t. leaves s t && on_right t) ss)

    both_list : map (numbers_of n) (select leaving (side_routes (gate_of o n))) ≡ gather (λ s. map (two s) (select (λ t. on_left s && (leaves s t && on_right t)) ss)) ss
    both_list =
        ap (λ l. map (numbers_of n) (select leaving l)) sides_both
        ∙ ap (map (numbers_of n)) (select_gather leaving (λ i. map (side_route i) (places_in o.right)) (places_in o.left))
        ∙ map_gather (numbers_of n) row (places_in o.left)
        ∙ ap (gather (λ i. map (numbers_of n) (row i))) (left_places n ws roles profile gs few)
        ∙ gather_map (λ i. map (numbers_of n) (row i)) (λ (s : Slot). s.place) (select on_left ss)
        ∙ gather_same (all_select on_left (λ s t k. row_known s k) all_known)
        ∙ gather_select (λ s. map (two s) (select (λ t. leaves s t && on_right t) ss)) on_left ss
        ∙ gather_same (all_weaken (λ s u. cond_select (on_left s) (two s) (λ t. leaves s t && on_right t) ss) (all_any ss))

    -- a reading grant of the caller's on one stream
    abbrev reading : ℕ → Slot → Bool
    reading x s = belongs who (G s) && (reads (G s).right && (same_list (G s).of (x ∷ []) && true))

    for_two : for_each d who cat (n.left ∷ (n.right ∷ [])) ≡ gather (λ s. map (two s) (select (reading n.right) ss)) (select (reading n.left) ss)
    unfolding for_each
    for_two =
        ap₂ (λ x y. gather (λ ns'. map (λ ms. ns' ++ ms) x) y) (for_one n.right ∙ numbers_are reads (n.right ∷ []) (λ g. true)) (numbers_are reads (n.left ∷ []) (λ g. true))
        ∙ gather_map (λ ns'. map (λ ms. ns' ++ ms) (map one (select (reading n.right) ss))) one (select (reading n.left) ss)
        ∙ gather_same (all_weaken (λ s u. map-map (λ ms. one s ++ ms) one (select (reading n.right) ss)) (all_any (select (reading n.left) ss)))

    LS : List ℕ → Bool
    LS ms = L ms && S ms

    first_two : select L (first_kind d who cat q) ≡ gather (λ s. map (two s) (select (λ t. reading n.left s && (LS (two s t) && reading n.right t)) ss)) ss
    unfolding LS
    first_two =
        left_first (n.left ∷ (n.right ∷ [])) streams_both.0 ∙ ap (select LS) for_two
        ∙ select_gather LS (λ s. map (two s) (select (reading n.right) ss)) (select (reading n.left) ss)
        ∙ gather_same (all_weaken (λ s u. select_map LS (two s) (select (reading n.right) ss) ∙ ap (map (two s)) (select_both (λ t. LS (two s t)) (reading n.right) ss)) (all_any (select (reading n.left) ss)))
        ∙ gather_select (λ s. map (two s) (select (λ t. LS (two s t) && reading n.right t) ss)) (reading n.left) ss
        ∙ gather_same (all_weaken (λ s u. cond_select (reading n.left s) (two s) (λ t. LS (two s t) && reading n.right t) ss) (all_any ss))

    turn_two : (m m' l c c' x y z : Bool) → (c && c') ≡ (x && (y && z)) → ((m && c) && (l && (m' && c'))) ≡ ((m && x) && ((l && z) && (m' && y)))
    turn_two false m' l c c' x y z e = refl
    turn_two true true true c c' x y z e = e ∙ ap (λ v. x && v) (and_swap y z)
    turn_two true m' false c c' x y z e = none c ∙ sym (none x)
      where
        none : (v : Bool) → (v && false) ≡ false
        none true = refl
        none false = refl
    turn_two true false true c c' x y z e = none c ∙ sym (ap (λ v. x && v) (none z) ∙ none x)
      where
        none : (v : Bool) → (v && false) ≡ false
        none true = refl
        none false = refl

    pair_known : (s t : Slot) → Known s → Known t → (on_left s && (leaves s t && on_right t)) ≡ (reading n.left s && (LS (two s t) && reading n.right t))
    unfolding LS
    pair_known s t k l =
        ap₂ (λ x y. (x && side_opened n s.grant n.left) && (leaves s t && (y && right_opened n t.grant))) (theirs s k) (theirs t l)
        ∙ turn_two (belongs who (G s)) (belongs who (G t)) (leaves s t) (side_opened n s.grant n.left) (right_opened n t.grant)
        (reads (G s).right && (same_list (G s).of (n.left ∷ []) && true)) (reads (G t).right && (same_list (G t).of (n.right ∷ []) && true)) (every (shown_by d (G s ∷ (G t ∷ []))) named)
        (two_sides ns q may b s.grant t.grant s.words t.words k.safe l.safe e once)
        ∙ ap₂ (λ x y. reading n.left s && ((x && y) && reading n.right t))
        (sym (ap (λ hs. not (empty? (left d hs q))) (grants_two s t k l) ∙ two_left ns q may b s.grant t.grant s.words t.words k.safe l.safe))
        (sym (ap (λ hs. every (shown_by d hs) named) (grants_two s t k l)))

    both_first : map (numbers_of n) (select leaving (side_routes (gate_of o n))) ≡ select L (first_kind d who cat q)
    both_first =
        both_list ∙ gather_same (all_weaken (λ s k. ap (map (two s)) (select_same _ _ (all_weaken (λ t l. pair_known s t k l) all_known))) all_known) ∙ sym first_two

  first_agrees : map (numbers_of n) (select leaving (side_routes (gate_of o n))) ≡ select L (first_kind d who cat q)
  first_agrees = go (single (sources q)) refl
    where
      go : (x : Bool) → single (sources q) ≡ x → map (numbers_of n) (select leaving (side_routes (gate_of o n))) ≡ select L (first_kind d who cat q)
      go true e = lone_first (rw e tt)
      go false e = both_first e

  -- ---- all kinds

  listed : routes_in o n ≡ select leaving (side_routes (gate_of o n)) ++ (select leaving (map (lone_route 2) (places_in o.pair)) ++ select leaving (map (lone_route 3) (places_in o.figures)))
  unfolding routes_in gate_of
  listed = by_kinds (gate_of o n) o.shown

  -- The routes that are listed have the numbers of the grants of the query's routes, in their order.
  pub routes_agree : map (numbers_of n) (routes_in o n) ≡ kinds d who cat q
  unfolding kinds
  routes_agree =
      ap (map (numbers_of n)) listed
      ∙ map-append (numbers_of n) (select leaving (side_routes (gate_of o n))) (select leaving (map (lone_route 2) (places_in o.pair)) ++ select leaving (map (lone_route 3) (places_in o.figures)))
      ∙ ap₂ ◌++◌ first_agrees
      (map-append (numbers_of n) (select leaving (map (lone_route 2) (places_in o.pair))) (select leaving (map (lone_route 3) (places_in o.figures))) ∙ ap₂ ◌++◌ second_agrees third_agrees)
      ∙ sym (select_append L (first_kind d who cat q) (second_kind d who cat q ++ third_kind d who cat q) ∙ ap (λ l. select L (first_kind d who cat q) ++ l) (select_append L (second_kind d who cat q) (third_kind d who cat q)))

  -- And so the routes of the query are those that are listed, each with the query that its grants make.
  pub routes_listed : (g : Grant) → routes d who cat q ≡ map (λ x. route_of d g who cat q (numbers_of n x)) (routes_in o n)
  routes_listed g = routes_made d g who cat q p ∙ ap (map (route_of d g who cat q)) (sym routes_agree) ∙ map-map (route_of d g who cat q) (numbers_of n) (routes_in o n)

  -- how many they are
  pub routes_counted : length (routes_in o n) ≡ length (routes d who cat q)
  routes_counted =
      sym (length-map (routes_in o n) (numbers_of n)) ∙ ap length routes_agree
      ∙ sym (sym (length-map (routes d who cat q) (λ (r : Route). r.grants)) ∙ ap length (routes_found d who cat q p))

  -- ---- the query of a listed route, by its kind and the grants in its places

  module _ (z : D.Grant) (g : Grant) where
    -- the grant in a place
    abbrev pub placed_grant : ℕ → Grant
    placed_grant i = grant_of ns (get_or gs i z) (words_in ws i)

    -- a grant that passes a test is in a place
    record Found (test : Slot → Bool) (i : ℕ) : Type 0 where
      slot : Slot
      known : Known slot
      place : slot.place ≡ i
      grant : slot.grant ≡ get_or gs i z
      words : slot.words ≡ words_in ws i
      passes : T (test slot)

    found : (test : Slot → Bool) (s : Slot) → Known s → s.grant ≡ get_or gs (s.place - 0) z → s.words ≡ words_in ws s.place → T (test s) → Found test s.place
    found test s k e f t =
        let h : s.place - 0 ≡ s.place = omega arith in
        record { slot = s; known = k; place = refl; grant = e ∙ ap (λ i. get_or gs i z) h; words = f; passes = t }

    found_at : (test : Slot → Bool) (mask : ℕ) → places_in mask ≡ map (λ (s : Slot). s.place) (select test ss) → All (Found test) (places_in mask)
    found_at test mask e =
        subst (All (Found test)) (sym e)
        (all_map {P = λ s. Found test s.place} (λ (s : Slot). s.place) (λ s h. h) (all_select test (λ s t h. found test s h.0 h.1.0 h.1.1 t) (all_both all_known (slots_at ws z 0 gs))))

    is_placed : {test : Slot → Bool} {i : ℕ} (f : Found test i) → G f.slot ≡ placed_grant i
    is_placed f = ap₂ (grant_of ns) f.grant f.words

    -- its query is that of its kind
    abbrev RightMade : R.Route → Type 0
    RightMade x = made_by d g q (grants_at cat (numbers_of n x)) ≡ made d q x.kind (placed_grant x.left) (placed_grant x.right)

    lone_made : (k i : ℕ) (s : Slot) → Known s → G s ≡ placed_grant i → s.place ≡ i → lone_kind d q (G s) ≡ k → made_by d g q (grants_at cat (suc i ∷ [])) ≡ made d q k (placed_grant i) (placed_grant i)
    unfolding made_by
    lone_made k i s h e f l =
        ap (made_by d g q) (ap (λ j. grants_at cat (suc j ∷ [])) (sym f) ∙ h.at) ∙ ap (λ j. made d q j (G s) (G s)) l ∙ ap (λ x. made d q k x x) e

    two_made : (i j : ℕ) (s t : Slot) → Known s → Known t → G s ≡ placed_grant i → G t ≡ placed_grant j → s.place ≡ i → t.place ≡ j
        → made_by d g q (grants_at cat (suc i ∷ (suc j ∷ []))) ≡ made d q 1 (placed_grant i) (placed_grant j)
    unfolding made_by
    two_made i j s t k l e f u v =
        ap (made_by d g q) (ap₂ (λ i j. grants_at cat (suc i ∷ (suc j ∷ []))) (sym u) (sym v) ∙ grants_two s t k l) ∙ ap₂ (made d q 1) e f

    reads_of : (s : Slot) → T (eqb s.grant.right 0) → reads (G s).right ≡ true
    unfolding grant_of
    reads_of s t = reads_is s.grant.right ∙ T_true (eqb s.grant.right 0) t

    reading_kind : (s : Slot) (x : Bool) → T (eqb s.grant.right 0) → single (sources q) ≡ x → lone_kind d q (G s) ≡ cond x 1 2
    unfolding lone_kind
    reading_kind s x t e = ap₂ (λ a c. cond a (cond c 1 2) 3) (reads_of s t) e

    figures_kind_of : (s : Slot) → (s.grant.right ≡ 0 → ⊥) → lone_kind d q (G s) ≡ 3
    unfolding lone_kind grant_of
    figures_kind_of s e = ap (λ a. cond a (cond (single (sources q)) 1 2) 3) (reads_is s.grant.right ∙ ne_eqb s.grant.right 0 e)

    side_reads : (s : Slot) (x : ℕ) → T (side_opened n s.grant x) → T (eqb s.grant.right 0)
    unfolding side_opened
    side_reads s x t = and_l (eqb s.grant.right 0) _ t

    one_made : (k : ℕ) → ((i : ℕ) → numbers_of n (lone_route k i) ≡ suc i ∷ []) → (mask : ℕ) (test : Slot → Bool) → places_in mask ≡ map (λ (s : Slot). s.place) (select test ss)
        → ((s : Slot) → T (test s) → lone_kind d q (G s) ≡ k) → All RightMade (map (lone_route k) (places_in mask))
    one_made k m mask test e f =
        all_map {P = Found test} (lone_route k) (λ i h. ap (λ l. made_by d g q (grants_at cat l)) (m i) ∙ lone_made k i h.slot h.known (is_placed h) h.place (f h.slot h.passes)) (found_at test mask e)

    sides_made : All RightMade (side_routes (gate_of o n))
    sides_made = go (single (sources q)) refl
      where
        go : (x : Bool) → single (sources q) ≡ x → All RightMade (side_routes (gate_of o n))
        go true e =
            subst (All RightMade) (sym (sides_lone (rw e tt)))
            (one_made 1 (lone_side_numbers (rw e tt)) o.left on_left (left_places n ws roles profile gs few)
            (λ s t. reading_kind s true (side_reads s n.left (and_r (mine n ws roles profile s) _ t)) e))
        go false e =
            subst (All RightMade) (sym (sides_both e))
            (all_gather {P = Found on_left}
            (λ i f. all_map {P = Found on_right} (side_route i)
            (λ j h. ap (λ l. made_by d g q (grants_at cat l)) (two_numbers e i j) ∙ two_made i j f.slot h.slot f.known h.known (is_placed f) (is_placed h) f.place h.place)
            (found_at on_right o.right (right_places n ws roles profile gs few)))
            (found_at on_left o.left (left_places n ws roles profile gs few)))

    -- a stream is asked for on the right
    two_asked : T (not (eqb n.right no_stream)) → single (sources q) ≡ false
    two_asked t = go (single (sources q)) refl
      where
        go : (x : Bool) → single (sources q) ≡ x → x ≡ false
        go true e = absurd (rw (eq-eqb n.right no_stream (streams_lone (rw e tt)).1) at t)
        go false e = refl

    pair_made : All RightMade (map (lone_route 2) (places_in o.pair))
    pair_made =
        one_made 2 pair_numbers o.pair on_pair (pair_places n ws roles profile gs few)
        (λ s t. let u = and_r (mine n ws roles profile s) (pair_opened n s.grant s.words) t in reading_kind s false (reading_pair s u) (both s u))
      where
        reading_pair : (s : Slot) → T (pair_opened n s.grant s.words) → T (eqb s.grant.right 0)
        reading_pair s u = unfold pair_opened in and_l (eqb s.grant.right 0) _ (and_r (not (eqb n.right no_stream)) _ u)

        both : (s : Slot) → T (pair_opened n s.grant s.words) → single (sources q) ≡ false
        both s u = two_asked (unfold pair_opened in and_l (not (eqb n.right no_stream)) _ u)

    figures_made : All RightMade (map (lone_route 3) (places_in o.figures))
    figures_made =
        one_made 3 figures_numbers o.figures on_figures (figures_places n ws roles profile gs few)
        (λ s t. figures_kind_of s (other s (and_r (mine n ws roles profile s) (figures_opened n s.grant s.words) t)))
      where
        other : (s : Slot) → T (figures_opened n s.grant s.words) → s.grant.right ≡ 0 → ⊥
        other s u e = no_right s.grant.right n.aggregate some_aggregate same_right e
          where
            some_aggregate : T (not (eqb n.aggregate 0))
            some_aggregate = unfold figures_opened in and_l (not (eqb n.aggregate 0)) _ u

            same_right : T (eqb s.grant.right n.aggregate)
            same_right = unfold figures_opened in and_l (eqb s.grant.right n.aggregate) _ (and_r (not (eqb n.aggregate 0)) _ u)

            no_right : (r a : ℕ) → T (not (eqb a 0)) → T (eqb r a) → r ≡ 0 → ⊥
            no_right r a t v e = rw (eq-eqb a 0 (sym (eqb→eq r a v) ∙ e)) at t

    all_made : All RightMade (routes_in o n)
    unfolding routes_in routes_by opened_routes gate_of
    all_made = all_select leaving (λ x t h. h) (all_append sides_made (all_append pair_made figures_made))

    -- The routes of the query are those that are listed, each with the query of its kind over the grants in its places.
    pub routes_placed : routes d who cat q ≡ map (λ (x : R.Route). record { grants = numbers_of n x; query = made d q x.kind (placed_grant x.left) (placed_grant x.right) }) (routes_in o n)
    routes_placed =
        routes_listed g
        ∙ map_same _ _ (all_weaken (λ x e i. record { grants = numbers_of n x; query = e i }) all_made)

    -- ---- what is known of a listed route's grants

    abbrev Stands : ℕ → Type 0
    Stands i = Standing ns ws o gs z i

    stands : {test : Slot → Bool} {i : ℕ} → Found test i → Stands i
    stands {test} {i} f =
        record {
          within = subst (λ j. j < length gs) f.place f.known.within;
          sound = subst (λ v. T (grant_sound ns (get_or gs i z) v)) f.words (subst (λ h. T (grant_sound ns h f.slot.words)) f.grant f.known.safe);
          held = subst (λ h. Held o i h) f.grant (subst (λ j. Held o j f.slot.grant) f.place f.known.held);
        }

    -- the streams of a grant that is in a place
    its_streams : {test : Slot → Bool} {i : ℕ} (ts : List ℕ) (f : Found test i) → T (same_list (streams_of f.slot.grant) ts) → (placed_grant i).of ≡ ts
    unfolding grant_of
    its_streams ts f t = ap streams_of (sym f.grant) ∙ same_list→eq (streams_of f.slot.grant) ts t

    side_streams : (s : Slot) (x : ℕ) → T (side_opened n s.grant x) → T (same_list (streams_of s.grant) (x ∷ []))
    unfolding side_opened
    side_streams s x t = search parts

    right_streams : (s : Slot) → T (right_opened n s.grant) → T (same_list (streams_of s.grant) (n.right ∷ []))
    unfolding right_opened
    right_streams s t = side_streams s n.right (and_r (not (eqb n.right no_stream)) _ t)

    abbrev KnownRoute : R.Route → Type 0
    KnownRoute x = Stands x.left × Stands x.right × Granting q placed_grant x

    sides_known : All KnownRoute (side_routes (gate_of o n))
    sides_known = go (single (sources q)) refl
      where
        left_known : All (Found on_left) (places_in o.left)
        left_known = found_at on_left o.left (left_places n ws roles profile gs few)

        left_of : {i : ℕ} (f : Found on_left i) → (placed_grant i).of ≡ n.left ∷ []
        left_of f = its_streams (n.left ∷ []) f (side_streams f.slot n.left (and_r (mine n ws roles profile f.slot) _ f.passes))

        go : (x : Bool) → single (sources q) ≡ x → All KnownRoute (side_routes (gate_of o n))
        go true e =
            subst (All KnownRoute) (sym (sides_lone (rw e tt)))
            (all_map {P = Found on_left} (lone_route 1) (λ i f. (stands f, stands f, on_one n.left refl refl (streams_lone (rw e tt)).0 (left_of f))) left_known)
        go false e =
            subst (All KnownRoute) (sym (sides_both e))
            (all_gather {P = Found on_left}
            (λ i f. all_map {P = Found on_right} (side_route i)
            (λ j h. (
              stands f,
              stands h,
              on_two n.left n.right refl (streams_both e).0 (left_of f)
                  (its_streams (n.right ∷ []) h (right_streams h.slot (and_r (mine n ws roles profile h.slot) _ h.passes))),
            ))
            (found_at on_right o.right (right_places n ws roles profile gs few)))
            left_known)

    pair_known_routes : All KnownRoute (map (lone_route 2) (places_in o.pair))
    unfolding pair_opened
    pair_known_routes =
        all_map {P = Found on_pair} (lone_route 2)
        (λ i f. let t = and_r (mine n ws roles profile f.slot) _ f.passes in (stands f, stands f, by_pair i f t))
        (found_at on_pair o.pair (pair_places n ws roles profile gs few))
      where
        by_pair : (i : ℕ) (f : Found on_pair i) → T (pair_opened n f.slot.grant f.slot.words) → Granting q placed_grant (lone_route 2 i)
        by_pair i f t =
            let e = two_asked (and_l (not (eqb n.right no_stream)) _ t) in
            on_both refl refl (ap length (streams_both e).0) (its_streams (n.left ∷ (n.right ∷ [])) f (search parts) ∙ sym (streams_both e).0)

    figures_known : All KnownRoute (map (lone_route 3) (places_in o.figures))
    unfolding figures_opened streams_asked
    figures_known =
        all_map {P = Found on_figures} (lone_route 3)
        (λ i f. let t = and_r (mine n ws roles profile f.slot) _ f.passes in (stands f, stands f, by_figures i f t))
        (found_at on_figures o.figures (figures_places n ws roles profile gs few))
      where
        some_aggregate : T (not (eqb n.aggregate 0)) → T (not (no_aggregate q))
        some_aggregate t = go (no_aggregate q) refl
          where
            go : (x : Bool) → no_aggregate q ≡ x → T (not x)
            go true e = rw (eq-eqb n.aggregate 0 (plain_picks ns q (rw e tt)).1) at t
            go false e = tt

        by_figures : (i : ℕ) (f : Found on_figures i) → T (figures_opened n f.slot.grant f.slot.words) → Granting q placed_grant (lone_route 3 i)
        by_figures i f t = on_told refl refl (some_aggregate (and_l (not (eqb n.aggregate 0)) _ t)) (its_streams (streams_asked n) f (search parts) ∙ asked_streams ns q may b)

    -- Of every route that is listed: its grants are sound, their numbers are those of opened grants, and their streams are those that are asked for.
    pub routes_known : All KnownRoute (routes_in o n)
    unfolding routes_in routes_by opened_routes gate_of
    routes_known = all_select leaving (λ x t h. h) (all_append sides_known (all_append pair_known_routes figures_known))
