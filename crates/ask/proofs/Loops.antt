-- Routes one after the other: what the first of them take, and what the loops over them leave.
use mathlib.Core.Path.{◌≡◌, refl, sym, ap, ◌∙◌, subst}
use mathlib.Core.List.{List, [], ◌∷◌, ◌++◌}
use mathlib.Core.Bool.{Bool, true, false, true≢false}
use Prim.Native.Nat.{ℕ, zero, suc, ◌+◌, ◌*◌, ◌-◌, ◌≤◌, ◌<◌}
use native.Mathlib.Nat.{sub-zero, mul-le-mul}
use native.Mathlib.Numerals.{add-one}
use native.Mathlib.Decide.{ℕ_discrete, dec_le, dec_lt}
use native.Mathlib.Omega.{arith}
use mir.Syntax.{w32}
use mir.Val.{Fits}
use lib.IntN.{ℤ, pos}
use lib.Dec.{leb, ltb}
use lib.ListN.{length, length-append, length-set, take, drop, set, take-append-drop}
use lib.Seq.{sets, length-sets, take-length}
use borrow.Author.Tests.{le-leb, lt-leb, ltb-true}
use Rattle.lists.specs.Lists.{All, all_nil, all_cons, gather, nth}
use Rattle.lists.proofs.Laws.{gather_append, all_nth, all_weaken, append_nil}
use Rattle.cells.proofs.Stored.{sets_append}
use Rattle.answer.proofs.Joined.{gather_most}
use Rattle.needs.specs.declared.Needs.{Needs}
use Rattle.routes.specs.declared.Open.{Open}
use Rattle.routes.specs.declared.Route.{Route}
use Rattle.routes.specs.declared.Routes.{Routes}
use Rattle.routes.specs.Listing.{routes_in, routes_of, route_at, no_route}
use Rattle.routes.proofs.Listed.{route_listed}
use Rattle.pairs.specs.Given.{Counted}
use Rattle.route_plan.specs.Ways.{way_of}
use Rattle.route_plan.specs.declared.Way.{Way}
use Rattle.route_cells.proofs.Routes.{set_past}
use Rattle.route_cells.specs.Kept.{kept_size, kept_at, Keepable, Keeping}
use Rattle.route_cells.specs.Routes.{Setting, left_of, way_cells, Enterable, Turns}
use Rattle.ask.specs.Cells.{routes_cells, Evaluable, Runnable, Keeps}

-- ---- the first of some items

take_next : {A : Type 0} (d : A) (xs : List A) (i : ℕ) → i < length xs → take (suc i) xs ≡ take i xs ++ (nth d xs i ∷ [])
unfolding nth
take_next d [] i h = absurd (omega arith)
take_next d (x ∷ xs) zero h = refl
take_next d (x ∷ xs) (suc i) h = ap (λ l. x ∷ l) (take_next d xs i (omega arith))

-- the cells of those behind them
gather_few : {A B : Type 0} (f : A → List B) (k : ℕ) (i : ℕ) {xs : List A} → All (λ x. length (f x) ≤ k) xs → length (gather f xs) ≤ length (gather f (take i xs)) + (length xs - i) * k
unfolding gather
gather_few f k i all_nil = omega arith
gather_few f k zero (all_cons {x} {xs} h hs) =
    let a = gather_most f k (all_cons {x = x} h hs) in
    let b = ap (λ z. z * k) (sub-zero (length (x ∷ xs))) in
    omega arith
gather_few f k (suc i) (all_cons {x} {xs} h hs) =
    let a = length-append (f x) (gather f xs) in
    let b = gather_few f k i hs in
    let c = length-append (f x) (gather f (take i xs)) in
    let e : length (x ∷ xs) - suc i ≡ length xs - i = omega arith in
    let d = ap (λ z. z * k) e in
    omega arith

module _ (s : Setting) (o : Open) (n : Needs) where
  abbrev xs : List Route
  xs = routes_in o n

  abbrev at_place : ℕ → Way
  at_place i = way_of o n (nth no_route xs i)

  -- the cells of the first routes
  abbrev pub first_cells : ℕ → List ℤ
  first_cells i = routes_cells s o n (take i (routes_in o n))

  abbrev pub all_cells : List ℤ
  all_cells = routes_cells s o n (routes_in o n)

  first_more : (i : ℕ) → i < length xs → first_cells (suc i) ≡ first_cells i ++ way_cells s (at_place i)
  unfolding routes_cells gather
  first_more i h =
      ap (gather (λ x. way_cells s (way_of o n x))) (take_next no_route xs i h) ∙ gather_append (λ x. way_cells s (way_of o n x)) (take i xs) (nth no_route xs i ∷ []) ∙ simp append_nil

  first_all : (i : ℕ) → i ≡ length xs → first_cells i ≡ all_cells
  first_all i e = ap (routes_cells s o n) (ap (λ k. take k xs) e ∙ take-length xs)

  -- the first are no more than all
  first_few : (i : ℕ) → length (first_cells i) ≤ length all_cells
  unfolding routes_cells
  first_few i =
      let e = ap length (gather_append (λ x. way_cells s (way_of o n x)) (take i xs) (drop i xs)) ∙ length-append (gather (λ x. way_cells s (way_of o n x)) (take i xs)) _ in
      let f = ap (λ l. length (gather (λ x. way_cells s (way_of o n x)) l)) (take-append-drop i xs) in
      omega arith

  module _ {r : Routes} {most room size : ℕ} (k : Runnable s o n r most room size) where
    pub count_is : r.count ≡ length (routes_in o n)
    unfolding routes_of
    count_is = ap (λ (q : Routes). q.count) k.listed

    placed_at : {i : ℕ} {x : Route} {y : Way} → i < length xs → x ≡ route_at r i → y ≡ way_of o n x → y ≡ at_place i
    placed_at {i} h e f = let a = k.few in f ∙ ap (way_of o n) (e ∙ ap (λ q. route_at q i) k.listed ∙ route_listed o n i (omega arith))

    each_at : (i : ℕ) → i < length xs → Evaluable s most (at_place i)
    each_at i h = all_nth no_route i k.each h

    -- all routes have at most so many cells more than the first
    pub rest_few : (i : ℕ) → length all_cells ≤ length (first_cells i) + (length (routes_in o n) - i) * (4 + most)
    unfolding routes_cells
    rest_few i = gather_few (λ x. way_cells s (way_of o n x)) (4 + most) i (all_weaken (λ x e. e.few) k.each)

    module _ {i : ℕ} (h : i < r.count) {x : Route} {y : Way} (e : x ≡ route_at r i) (f : y ≡ way_of o n x) where
      inside : i < length xs
      inside = let c = count_is in omega arith

      is : y ≡ at_place i
      is = placed_at inside e f

      pub next_long : length (first_cells (i + 1)) ≡ length (first_cells i) + length (way_cells s y)
      next_long = ap (λ j. length (first_cells j)) (add-one i) ∙ ap length (first_more i inside) ∙ length-append (first_cells i) (way_cells s (at_place i)) ∙ ap (λ v. length (first_cells i) + length (way_cells s v)) (sym is)

      next_cells : first_cells (i + 1) ≡ first_cells i ++ way_cells s y
      next_cells = ap first_cells (add-one i) ∙ first_more i inside ∙ ap (λ v. first_cells i ++ way_cells s v) (sym is)

      -- ---- the rows that are kept

      here : left_of s y ≡ left_of s (at_place i)
      here = ap (left_of s) is

      also : (c c' : ℕ) → ((j : ℕ) → j < c' → (j ≡ i → ⊥) → j < c) → {ks ks' : List ℕ} → Keeps s o n c ks → Keeping (left_of s y) i ks ks' → Keeps s o n c' ks'
      also c c' g {ks} {ks'} u v = record { size = let a = u.size in let b = v.size in omega arith; first = λ j l. go j l (ℕ_discrete j i) }
        where
          go : (j : ℕ) → j < c' → Dec (j ≡ i) → kept_at ks' j ≡ left_of s (at_place j)
          go j l (yes e) = rw e (v.here ∙ here)
          go j l (no e) = v.elsewhere j e ∙ u.first j (g j l e)

      pub keep_ready : {ks : List ℕ} → Keeps s o n i ks → Keepable (left_of s y) i false ks
      keep_ready u = record { placed = let a = inside in let b = k.few in omega arith; lent = u.size; held = λ b. absurd (true≢false (sym b)) }

      pub keep_more : {ks ks' : List ℕ} → Keeps s o n i ks → Keeping (left_of s y) i ks ks' → Keeps s o n (i + 1) ks'
      keep_more u v = also i (i + 1) (λ j l e. below j l (dec_lt j i) e) u v
        where
          below : (j : ℕ) → j < i + 1 → Dec (j < i) → (j ≡ i → ⊥) → j < i
          below j l (yes a) e = a
          below j l (no a) e = absurd (e (omega arith))

      module _ {c : ℕ} {ks : List ℕ} (u : Keeps s o n c ks) where
        pub keep_known : Keepable (left_of s y) i (ltb i c) ks
        keep_known = record { placed = let a = inside in let b = k.few in omega arith; lent = u.size; held = λ b. u.first i (ltb-true i c b) ∙ sym here }

        pub keep_still : {ks' : List ℕ} → Keeping (left_of s y) i ks ks' → Keeps s o n c ks'
        keep_still v = also c c (λ j l e. l) u v

      -- ---- counting

      module _ {at : ℕ} (g : Counted (suc (length (first_cells i))) room at) (l : at ≤ room) where
        known : at ≡ suc (length (first_cells i))
        known = g.exact (go (dec_le (suc (length (first_cells i))) room))
          where
            go : Dec (suc (length (first_cells i)) ≤ room) → suc (length (first_cells i)) ≤ room
            go (yes a) = a
            go (no a) = let b = g.beyond (omega arith) in absurd (omega arith)

        pub count_ready : (cells : List ℤ) → length cells ≡ size → Enterable s y false at room (length cells)
        count_ready cells z =
            record {
              suits = rw is (each_at i inside).suits;
              from = l;
              near = k.near;
              lent = rw z k.lent;
              fits = λ b. absurd (true≢false (sym b));
            }

        pub count_more : {last : Bool} {cells cells' : List ℤ} {at' : ℕ} → Turns s y false last at room cells cells' at' → (i + 1 < r.count → last ≡ false)
            → (cells' ≡ cells) × (i + 1 < r.count → Counted (suc (length (first_cells (i + 1)))) room at') × (leb at' room ≡ leb (suc (length (first_cells (i + 1)))) room)
        count_more {at' = at'} t q =
            let c = t.counted refl in
            let z : at + length (way_cells s y) ≡ suc (length (first_cells (i + 1))) = let a = known in let b = next_long in omega arith in
            (c.0, λ u. subst (λ m. Counted m room at') z (c.1 (q u)), c.2 ∙ ap (λ m. leb m room) z)

        pub count_sure : at + (r.count - i) * (4 + most) ≤ room → true ≡ leb (suc (length all_cells)) room
        count_sure b = let a = known in let c = rest_few i in let d = count_is in sym (le-leb (suc (length all_cells)) room (sure (sym d) c))
          where
            sure : length xs ≡ r.count → length all_cells ≤ length (first_cells i) + (length xs - i) * (4 + most) → suc (length all_cells) ≤ room
            sure e f = let a = known in let p = rw e at f in omega arith

    -- ---- writing

    module _ {i : ℕ} (h : i < r.count) {x : Route} {y : Way} (e : x ≡ route_at r i) (f : y ≡ way_of o n x) (enough : suc (length all_cells) ≤ room) where
      pub write_ready : (cells : List ℤ) → length cells ≡ size → {at : ℕ} → at ≡ suc (length (first_cells i)) → Enterable s y true at room (length cells)
      write_ready cells z g =
          let a = next_long h e f in
          let b = first_few (i + 1) in
          record {
            suits = rw (is h e f) (each_at i (inside h e f)).suits;
            from = omega arith;
            near = k.near;
            lent = rw z k.lent;
            fits = λ c. omega arith;
          }

      pub write_more : (cells₀ : List ℤ) {cells cells' : List ℤ} {at at' : ℕ} → at ≡ suc (length (first_cells i)) → cells ≡ sets cells₀ 1 (first_cells i) → Turns s y true false at room cells cells' at'
          → (cells' ≡ sets cells₀ 1 (first_cells (i + 1))) × (at' ≡ suc (length (first_cells (i + 1))))
      write_more cells₀ {at = at} a b t =
          let w = t.written refl refl in
          let l = next_long h e f in
          let j : at ≡ 1 + length (first_cells i) = omega arith in (
            w.0 ∙ ap (λ u. sets u at (way_cells s y)) b ∙ ap (λ v. sets (sets cells₀ 1 (first_cells i)) v (way_cells s y)) j
                ∙ sym (sets_append cells₀ 1 (first_cells i) (way_cells s y)) ∙ ap (sets cells₀ 1) (sym (next_cells h e f)),
            omega (arith, w.1),
          )

    pub write_start : (cells : List ℤ) → (cells ≡ sets cells 1 (first_cells 0)) × (1 ≡ suc (length (first_cells 0)))
    unfolding routes_cells gather
    write_start cells = (refl, refl)

    pub write_long : (cells₀ : List ℤ) (i : ℕ) {cells : List ℤ} → cells ≡ sets cells₀ 1 (first_cells i) → length cells ≡ length cells₀
    write_long cells₀ i e = ap length e ∙ length-sets cells₀ 1 (first_cells i)

    pub write_kept : (cells₀ : List ℤ) (i : ℕ) (v : ℤ) {cells cells' : List ℤ} → cells ≡ sets cells₀ 1 (first_cells i) → cells' ≡ set cells 0 v → length cells' ≡ length cells₀
    write_kept cells₀ i v {cells} e f = ap length f ∙ length-set cells 0 v ∙ write_long cells₀ i e

    pub write_first : suc (length all_cells) ≤ room → {size' : ℕ} → size' ≡ size → (0 < size') × (r.count ≤ 4294967296)
    write_first h e = let a = k.lent in let b = k.few in let c = count_is in (omega arith, omega arith)

    pub write_end : (cells₀ : List ℤ) (i : ℕ) {cells cells' : List ℤ} {at : ℕ} → r.count ≤ i → i ≤ r.count → cells ≡ sets cells₀ 1 (first_cells i) → at ≡ suc (length (first_cells i)) → cells' ≡ set cells 0 (pos r.count)
        → (cells' ≡ sets cells₀ 0 (pos (length (routes_in o n)) ∷ all_cells)) × (at ≡ suc (length all_cells))
    write_end cells₀ i a b e f d =
        let g = first_all i (let c = count_is in omega arith) in
        (d ∙ rw (e, g, count_is) (set_past cells₀ 0 1 (pos (length (routes_in o n))) all_cells (omega arith)), f ∙ ap (λ u. suc (length u)) g)

    product : (i : ℕ) → (r.count - i) * (4 + most) ≤ 16 * 67108868
    product i = let c = count_is in let f = k.few in let l = k.limit in mul-le-mul {n₂ = 16} {m₂ = 67108868} (omega arith) (omega arith)

    pub product_fits : (i : ℕ) → Fits w32 ((r.count - i) * (4 + most))
    product_fits i = let a = product i in record { fits = omega arith }

    pub sum_fits : (i : ℕ) {at : ℕ} → at ≤ room → Fits w32 (at + (r.count - i) * (4 + most))
    sum_fits i l = let a = product i in let b = k.near in record { fits = omega arith }

    pub keep_none : {ks : List ℕ} → kept_size ≤ length ks → Keeps s o n 0 ks
    keep_none h = record { size = h; first = λ i l. absurd (omega arith) }

    -- ---- the ends of counting

    pub count_start : (0 < r.count → Counted (suc (length (first_cells 0))) room 1) × (leb 1 room ≡ leb (suc (length (first_cells 0))) room)
    unfolding routes_cells gather
    count_start = (λ h. record { exact = λ l. refl; beyond = λ l. l }, refl)

    pub count_past : (i : ℕ) {at : ℕ} → Counted (suc (length (first_cells i))) room at → room < at → false ≡ leb (suc (length all_cells)) room
    count_past i {at} g l = sym (lt-leb (suc (length all_cells)) room (let a = over (dec_le (suc (length (first_cells i))) room) in let b = first_few i in omega arith))
      where
        over : Dec (suc (length (first_cells i)) ≤ room) → room < suc (length (first_cells i))
        over (yes a) = let e = g.exact a in absurd (omega arith)
        over (no a) = omega arith

    pub count_end : (i at : ℕ) → r.count ≤ i → i ≤ r.count → leb at room ≡ leb (suc (length (first_cells i))) room → leb at room ≡ leb (suc (length all_cells)) room
    count_end i at a b g = g ∙ ap (λ (l : List ℤ). leb (suc (length l)) room) (first_all i (let c = count_is in omega arith))
