-- Opened grants and routes, step by step, in the order of the code.
use mathlib.Core.Path.{◌≡◌, refl, sym, ap, ◌∙◌}
use mathlib.Core.List.{List, [], ◌∷◌, ◌++◌, map, map-append, append_assoc}
use mathlib.Core.Bool.{Bool, true, false, ◌||◌, not, cond}
use Prim.Native.Nat.{ℕ, zero, suc, ◌+◌, ◌*◌, ◌-◌, ◌/◌, ◌%◌, ◌^◌, ◌≤◌, ◌<◌, min}
use native.Mathlib.Decide.{dec_lt}
use native.Mathlib.Omega.{arith}
use lib.Bits.{bit_and, bit_or}
use lib.Dec.{ltb, eqb}
use lib.ListN.{length, get_or, set, replicate, length-append, length-map, get_or-eq_default, get_or-map}
use lib.Seq.{set_out}
use borrow.Author.Tests.{eq-eqb, ne_eqb, lt-ltb, le-ltb, not-true, not-false}
use Rattle.lists.specs.Lists.{select, nth, gather, count_from}
use Rattle.lists.proofs.Laws.{All, all_nil, all_cons, all_nth, all_weaken, all_select, all_append, all_map, all_gather, append_nil}
use Rattle.lists.proofs.Counting.{nth_map}
use Rattle.lists.proofs.Gathers.{select_append, select_gather, gather_ones, gather_map}
use Rattle.items.specs.Items.{first_of}
use Rattle.items.proofs.Folds.{first_length, first_more}
use Rattle.syntax.specs.Limits.{max_routes}
use Rattle.schema.proofs.Lookups.{nth_past}
use Rattle.masks.specs.Masks.{bit?, with_bit}
use Rattle.masks.proofs.Bits.{bit_or_lem, bit_alone}
use Rattle.masks.proofs.Lists.{bit_none}
use Rattle.rows.specs.Masks.{At, bits_from, next_bit}
use Rattle.rows.proofs.Words.{next_found, at_next, at_less, bits_here, bits_next, bits_end, gather_more}
use Rattle.grant.specs.declared.Grant.{Grant}
use Rattle.needs.specs.declared.Needs.{Needs}
use Rattle.routes.specs.declared.Open.{Open}
use Rattle.routes.specs.declared.Route.{Route}
use Rattle.routes.specs.declared.Gate.{Gate}
use Rattle.routes.specs.declared.Routes.{Routes}
use Rattle.routes.specs.Listing.{bit_also, with_opened, no_route, side_route, lone_route, gate_of, leaves_some, places_in, right_sides, side_routes, opened_routes, routes_by, routes_in, packed, unpacked, routes_of, route_at, with_route, with_routes, Low}

-- ---- opened grants

module _ (bits i mask place : ℕ) {x : Bool} (e : x ≡ bit? bits i) where
  pub also_set : x ≡ true → {y : ℕ} → y ≡ with_bit mask place → y ≡ bit_also bits i mask place
  unfolding bit_also
  also_set t f = rw (sym e ∙ t) f

  pub also_not : x ≡ false → mask ≡ bit_also bits i mask place
  unfolding bit_also
  also_not t = rw (sym e ∙ t)

pub ruleset also_ends = (also_set, also_not)

module _ (o : Open) (place bits : ℕ) (g : Grant) where
  pub opened_past : 24 ≤ place → o ≡ with_opened o place bits g
  unfolding with_opened
  opened_past h = rw (le-ltb place 24 h)

  pub opened_more : place < 24 → {a b c d : ℕ} → a ≡ bit_also bits 0 o.left place → b ≡ bit_also bits 1 o.right place → c ≡ bit_also bits 2 o.pair place → d ≡ bit_also bits 3 o.figures place
      → ◌≡◌ {A = Open} (record { left = a; right = b; pair = c; figures = d; shown = set o.shown place g.shown; words = set o.words place g.words; from = set o.from place g.from; to = set o.to place g.to })
      (with_opened o place bits g)
  unfolding with_opened
  opened_more h e f i k = rw (lt-ltb place 24 h, e, f, i, k)

pub ruleset opened_ends = (opened_past, opened_more)

-- ---- a route

module _ (g : Gate) (shown : List ℕ) (x : Route) where
  pub leaves_whole : g.whole ≡ true → true ≡ leaves_some g shown x
  unfolding leaves_some
  leaves_whole e = rw e

  pub leaves_cut : g.whole ≡ false → {a b : ℕ} → a ≡ get_or shown x.left 0 → b ≡ get_or shown x.right 0 → not (eqb (bit_and (bit_or a b) g.header) 0) ≡ leaves_some g shown x
  unfolding leaves_some
  leaves_cut e p q = rw (e, ← p, ← q)

pub ruleset leaves_ends = (leaves_whole, leaves_cut)

-- ---- places on the right

pub bit_with : (m i j : ℕ) → i < 32 → bit? (with_bit m i) j ≡ (bit? m j || eqb i j)
unfolding with_bit
bit_with m i j h = rw (lt-ltb i 32 h) (bit_or_lem m (2 ^ i) j ∙ ap (λ b. bit? m j || b) (bit_alone i j))

lone_place : (i : ℕ) → i < 32 → bits_from (with_bit 0 i) 0 ≡ i ∷ []
lone_place i h =
    bits_next (record { on = omega arith; within = omega arith; passed = λ j a b. other j (λ e. omega arith); here = λ l. own })
    ∙ bits_here m i h own
    ∙ ap (λ l. i ∷ l) (bits_next (record { on = omega arith; within = omega arith; passed = λ j a b. other j (λ e. omega arith); here = λ l. absurd (omega arith) }) ∙ bits_end m 32 (omega arith))
  where
    m : ℕ
    m = with_bit 0 i

    alone : (j : ℕ) → bit? m j ≡ eqb i j
    alone j = bit_with 0 i j h ∙ ap (λ b. b || eqb i j) (bit_none j)

    own : bit? m i ≡ true
    own = alone i ∙ eq-eqb i i refl

    other : (j : ℕ) → (i ≡ j → ⊥) → bit? m j ≡ false
    other j e = alone j ∙ ne_eqb i j e

module _ (g : Gate) (i : ℕ) where
  pub right_lone : g.lone ≡ true → i < 32 → {m : ℕ} → m ≡ with_bit 0 i → bits_from m 0 ≡ right_sides g i
  unfolding right_sides
  right_lone e h f = rw (e, f) (lone_place i h)

  pub right_both : g.lone ≡ false → bits_from g.right 0 ≡ right_sides g i
  unfolding right_sides
  right_both e = rw e

pub ruleset right_ends = (right_lone, right_both)

-- ---- routes in memory

-- those that leave a column
abbrev pub kept : Gate → List ℕ → List Route → List Route
kept g shown xs = select (leaves_some g shown) xs

module _ (r : Routes) (x : Route) where
  pub more_past : 16 ≤ r.count → ◌≡◌ {A = Routes} (record { count = r.count + 1; list = r.list }) (with_route r x)
  unfolding with_route
  more_past h = rw (le-ltb r.count 16 h)

  pub more_listed : r.count < 16 → {w : ℕ} → w ≡ packed x → ◌≡◌ {A = Routes} (record { count = r.count + 1; list = set r.list r.count w }) (with_route r x)
  unfolding with_route
  more_listed h e = rw (lt-ltb r.count 16 h, e)

  module _ (g : Gate) (shown : List ℕ) {b : Bool} (e : b ≡ leaves_some g shown x) where
    pub leaving_none : not b ≡ true → r ≡ with_routes r (kept g shown (x ∷ []))
    unfolding select with_routes
    leaving_none t = rw (sym e ∙ not-true b t)

    pub leaving_one : not b ≡ false → {s : Routes} → s ≡ with_route r x → s ≡ with_routes r (kept g shown (x ∷ []))
    unfolding select with_routes
    leaving_one t f = rw (sym e ∙ not-false b t) f

  pub one_counted : {s : Routes} → s ≡ with_route r x → s.count ≤ r.count + 1
  unfolding with_route
  one_counted f = rw f (omega arith)

pub ruleset more_ends = (more_past, more_listed)

pub ruleset leaving_ends = (leaving_none, leaving_one, one_counted)

pub with_append : (r : Routes) (xs ys : List Route) → with_routes r (xs ++ ys) ≡ with_routes (with_routes r xs) ys
unfolding with_routes
with_append r [] ys = refl
with_append r (x ∷ xs) ys = with_append (with_route r x) xs ys

-- ---- a walk through the places of a mask, each with its routes

pub record Walk (h : ℕ → List Route) (m : ℕ) (r₀ r : Routes) (i : ℕ) : Type 0 where
  pub at : At m i
  pub same : with_routes r (gather h (bits_from m i)) ≡ with_routes r₀ (gather h (bits_from m 0))

pub at_start : {m i : ℕ} → i ≡ next_bit m 0 → At m i
at_start e = at_next (next_found (omega arith) e)

pub at_more : {m i k : ℕ} → i < 32 → k ≡ next_bit m (i + 1) → At m k
at_more l f = at_next (next_found (omega arith) f)

pub at_falls : {m i k : ℕ} → At m i → i < 32 → k ≡ next_bit m (i + 1) → 32 - k < 32 - i
at_falls a l f = at_less a l (next_found (omega arith) f)

module _ {h : ℕ → List Route} {m : ℕ} where
  pub walk_start : (r : Routes) {i : ℕ} → i ≡ next_bit m 0 → Walk h m r r i
  walk_start r e = let n = next_found (omega arith) e in record { at = at_next n; same = ap (λ l. with_routes r (gather h l)) (sym (bits_next n)) }

  module _ {r₀ r : Routes} {i : ℕ} (w : Walk h m r₀ r i) where
    pub walk_more : i < 32 → {s : Routes} {k : ℕ} → s ≡ with_routes r (h i) → k ≡ next_bit m (i + 1) → Walk h m r₀ s k
    walk_more l {s} {k} e f =
        let n = next_found (omega arith) f in
        record {
          at = at_next n;
          same = ap (λ x. with_routes x (gather h (bits_from m k))) e ∙ sym (with_append r (h i) (gather h (bits_from m k))) ∙ sym (ap (with_routes r) (gather_more w.at l n h)) ∙ w.same;
        }

    pub walk_less : i < 32 → {k : ℕ} → k ≡ next_bit m (i + 1) → 32 - k < 32 - i
    walk_less l f = at_falls w.at l f

    pub walk_end : 32 ≤ i → r ≡ with_routes r₀ (gather h (bits_from m 0))
    unfolding gather with_routes
    walk_end l = ap (λ ks. with_routes r (gather h ks)) (sym (bits_end m i l)) ∙ w.same

-- the next place is a later one, so that a count of at most one a place, or 32, stays below the places passed
module _ (m i : ℕ) {k : ℕ} (l : i < 32) (f : k ≡ next_bit m (i + 1)) where
  passed : i + 1 ≤ k
  passed = (next_found {w = m} (omega arith) f).on

  pub count_one : (a b c : ℕ) → b ≤ a + i → c ≤ b + 1 → c ≤ a + k
  count_one a b c g h = let o = passed in omega arith

  pub count_row : (a b c : ℕ) → b ≤ a + 32 * i → c ≤ b + 32 → c ≤ a + 32 * k
  count_row a b c g h = let o = passed in omega arith

pub ruleset Walk_Ends = (walk_start, walk_more, walk_less, count_one, count_row)

select_each : (p : Route → Bool) (f : ℕ → Route) (xs : List ℕ) → gather (λ x. select p (f x ∷ [])) xs ≡ select p (map f xs)
select_each p f xs = sym (ap (select p) (sym (gather_ones (map f xs)) ∙ gather_map (λ x. x ∷ []) f xs) ∙ select_gather p (λ x. f x ∷ []) xs)

module _ (g : Gate) (shown : List ℕ) {r₀ r : Routes} {i : ℕ} where
  pub each_made : {m : ℕ} (f : ℕ → Route) → Walk (λ j. kept g shown (f j ∷ [])) m r₀ r i → 32 ≤ i → r ≡ with_routes r₀ (kept g shown (map f (places_in m)))
  each_made {m} f w l = walk_end w l ∙ ap (with_routes r₀) (select_each (leaves_some g shown) f (places_in m))

  pub each_left : Walk (λ p. kept g shown (map (side_route p) (right_sides g p))) g.left r₀ r i → 32 ≤ i → r ≡ with_routes r₀ (kept g shown (side_routes g))
  unfolding side_routes
  each_left w l = walk_end w l ∙ sym (ap (with_routes r₀) (select_gather (leaves_some g shown) (λ p. map (side_route p) (right_sides g p)) (places_in g.left)))

-- ---- all routes

first_one : (xs : List Route) (x : Route) → with_route (routes_of xs) x ≡ routes_of (xs ++ (x ∷ []))
unfolding with_route routes_of
first_one xs x = λ i. record { count = counted i; list = stored (dec_lt (length xs) 16) i }
  where
    counted : length xs + 1 ≡ length (xs ++ (x ∷ []))
    counted = omega (arith, length-append xs (x ∷ []))

    ps : List ℕ
    ps = map packed xs

    joined : first_of 16 0 (ps ++ (packed x ∷ [])) ≡ first_of 16 0 (map packed (xs ++ (x ∷ [])))
    joined = ap (first_of 16 0) (sym (map-append packed xs (x ∷ [])))

    stored : Dec (length xs < 16) → cond (ltb (length xs) 16) (set (first_of 16 0 ps) (length xs) (packed x)) (first_of 16 0 ps) ≡ first_of 16 0 (map packed (xs ++ (x ∷ [])))
    stored (yes h) =
        let e : min (length ps) 17 ≡ length xs = omega (arith, length-map xs packed) in
        rw (lt-ltb (length xs) 16 h) (ap (λ (k : ℕ). set (first_of 16 0 ps) k (packed x)) (sym e) ∙ first_more 0 16 ps (packed x) ∙ joined)
    stored (no h) =
        let e : 16 ≤ min (length ps) 17 = omega (arith, length-map xs packed) in
        rw (le-ltb (length xs) 16 (omega arith)) (sym (set_out (first_of 16 0 ps) (min (length ps) 17) (packed x) (rw (first_length 0 16 ps) e)) ∙ first_more 0 16 ps (packed x) ∙ joined)

first_some : (xs ys : List Route) → with_routes (routes_of xs) ys ≡ routes_of (xs ++ ys)
unfolding with_routes
first_some xs [] = ap routes_of (sym (append_nil xs))
first_some xs (y ∷ ys) = ap (λ r. with_routes r ys) (first_one xs y) ∙ first_some (xs ++ (y ∷ [])) ys ∙ ap routes_of (append_assoc xs (y ∷ []) ys)

pub no_routes : routes_of [] ≡ record { count = 0; list = replicate 16 0 }
unfolding routes_of first_of count_from
no_routes = refl

-- kind after kind
pub by_kinds : (g : Gate) (shown : List ℕ) → routes_by g shown ≡ kept g shown (side_routes g) ++ (kept g shown (map (lone_route 2) (places_in g.pair)) ++ kept g shown (map (lone_route 3) (places_in g.figures)))
unfolding routes_by opened_routes
by_kinds g shown =
    select_append (leaves_some g shown) (side_routes g) (map (lone_route 2) (places_in g.pair) ++ map (lone_route 3) (places_in g.figures))
    ∙ ap (λ l. kept g shown (side_routes g) ++ l) (select_append (leaves_some g shown) (map (lone_route 2) (places_in g.pair)) (map (lone_route 3) (places_in g.figures)))

module _ (o : Open) (n : Needs) where
  pub all_kinds : {g : Gate} → g ≡ gate_of o n → {a b c : Routes} → a ≡ with_routes (record { count = 0; list = replicate 16 0 }) (kept g o.shown (side_routes g))
      → b ≡ with_routes a (kept g o.shown (map (lone_route 2) (places_in g.pair))) → c ≡ with_routes b (kept g o.shown (map (lone_route 3) (places_in g.figures))) → c ≡ routes_of (routes_in o n)
  unfolding routes_in
  all_kinds {g} e ea eb ec =
      ec ∙ ap (λ r. with_routes r zs) (eb ∙ ap (λ r. with_routes r ys) (ea ∙ ap (λ r. with_routes r xs) (sym no_routes)))
      ∙ sym (with_append (with_routes (routes_of []) xs) ys zs) ∙ sym (with_append (routes_of []) xs (ys ++ zs)) ∙ first_some [] (xs ++ (ys ++ zs))
      ∙ ap routes_of (sym (by_kinds g o.shown) ∙ ap (λ g. routes_by g o.shown) e)
    where
      xs : List Route
      xs = kept g o.shown (side_routes g)

      ys : List Route
      ys = kept g o.shown (map (lone_route 2) (places_in g.pair))

      zs : List Route
      zs = kept g o.shown (map (lone_route 3) (places_in g.figures))

pub ruleset kinds_ends = (all_kinds)

-- ---- a route by its number

pub route_past : (r : Routes) (i : ℕ) → length r.list ≡ 16 → 16 ≤ i → lone_route 0 0 ≡ route_at r i
unfolding route_at unpacked
route_past r i e h = ap unpacked (sym (get_or-eq_default r.list 0 {n = i} (omega arith)))

packed_back : (x : Route) → Low x → unpacked (packed x) ≡ x
unfolding unpacked packed
packed_back x l =
    let a : (x.kind * 65536 + x.left * 256 + x.right) / 65536 ≡ x.kind = omega arith in
    let b : (x.kind * 65536 + x.left * 256 + x.right) / 256 % 256 ≡ x.left = omega arith in
    let c : (x.kind * 65536 + x.left * 256 + x.right) % 256 ≡ x.right = omega arith in
    λ i. record { kind = a i; left = b i; right = c i }

nth_is : {A : Type 0} (d : A) (xs : List A) (i : ℕ) → nth d xs i ≡ get_or xs i d
unfolding nth
nth_is d [] i = refl
nth_is d (x ∷ xs) zero = refl
nth_is d (x ∷ xs) (suc i) = nth_is d xs i

kept_at : (xs : List Route) (i : ℕ) → i < 16 → get_or (routes_of xs).list i 0 ≡ packed (nth no_route xs i)
unfolding routes_of first_of packed no_route
kept_at xs i h =
    let e : 0 + i ≡ i = omega arith in
    sym (nth_is 0 (map (λ i. get_or (map packed xs) i 0) (count_from 0 16)) i) ∙ nth_map 0 (λ i. get_or (map packed xs) i 0) 0 16 i h ∙ ap (λ (k : ℕ). get_or (map packed xs) k 0) e
    ∙ get_or-map packed xs i no_route ∙ ap packed (sym (nth_is no_route xs i))

pub route_kept : (xs : List Route) (i : ℕ) → All Low xs → i < 16 → route_at (routes_of xs) i ≡ nth no_route xs i
unfolding route_at
route_kept xs i l h = ap unpacked (kept_at xs i h) ∙ packed_back (nth no_route xs i) (low (dec_lt i (length xs)))
  where
    low : Dec (i < length xs) → Low (nth no_route xs i)
    low (yes k) = all_nth no_route i l k
    low (no k) = rw (nth_past no_route xs i (omega arith)) (unfold no_route in record { kind = omega arith; left = omega arith; right = omega arith })

counted_below : (a m : ℕ) → All (λ j. j < a + m) (count_from a m)
unfolding count_from
counted_below a zero = all_nil
counted_below a (suc m) = all_cons {x = a} (omega arith) (all_weaken (λ j h. omega arith) (counted_below (suc a) m))

places_low : (m : ℕ) → All (λ i. i < 32) (places_in m)
unfolding bits_from
places_low m = all_select (bit? m) (λ i t h. omega arith) (counted_below 0 32)

lone_low : (k m : ℕ) → k ≤ 3 → All Low (map (lone_route k) (places_in m))
lone_low k m h = all_map (lone_route k) (λ i l. record { kind = h; left = l; right = l }) (places_low m)

right_low : (g : Gate) (i : ℕ) → i < 32 → All (λ j. j < 32) (right_sides g i)
unfolding right_sides
right_low g i h = go g.lone
  where
    go : (b : Bool) → All (λ j. j < 32) (cond b (i ∷ []) (places_in g.right))
    go true = all_cons h all_nil
    go false = places_low g.right

sides_low : (g : Gate) → All Low (side_routes g)
unfolding side_routes
sides_low g = all_gather (λ i h. all_map (side_route i) (λ j l. record { kind = omega arith; left = h; right = l }) (right_low g i h)) (places_low g.left)

-- Each of the first routes in memory is that of the list.
pub route_listed : (o : Open) (n : Needs) (i : ℕ) → i < max_routes → route_at (routes_of (routes_in o n)) i ≡ nth no_route (routes_in o n) i
route_listed o n i h = route_kept (routes_in o n) i low h
  where
    low : All Low (routes_in o n)
    low = unfold routes_in routes_by opened_routes gate_of in all_select (leaves_some (gate_of o n) o.shown) (λ x t l. l) (all_append (sides_low (gate_of o n)) (all_append (lone_low 2 o.pair (omega arith)) (lone_low 3 o.figures (omega arith))))
