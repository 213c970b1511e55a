-- What is read at a place looks at no word from there on, steps enough are enough, and a chain of links gives a list of conditions.
use mathlib.Core.Path.{◌≡◌, refl, sym, ap, ap₂, ◌∙◌}
use mathlib.Core.List.{List, [], ◌∷◌, ◌++◌, append_assoc}
use mathlib.Core.Bool.{Bool, true, false, ◌&&◌}
use Prim.Native.Nat.{ℕ, zero, suc, ◌+◌, ◌*◌, ◌-◌, ◌≤◌, ◌<◌, min}
use native.Mathlib.Decide.{dec_lt}
use native.Mathlib.Omega.{arith}
use lib.Dec.{eqb, ltb}
use lib.ListN.{get_or}
use borrow.Author.Tests.{eq-eqb, ne_eqb, lt-ltb, le-ltb}
use Rattle.lists.specs.Lists.{empty?}
use Rattle.lists.proofs.Laws.{append_nil}
use Rattle.syntax.specs.Grammar.{Cond, test}
use Rattle.model.specs.Queries.{Compare}
use Rattle.nodes.specs.declared.Node.{Node}
use Rattle.nodes.specs.Nodes.{value_at, node_at, node_words, node_compare, link, headed, cond_in, list_in, conditions_of, reaches, linked, terms_sound, node_sound, all_sound, nodes_sound}

pub link_falls : (ws : List ℕ) (k : ℕ) → link ws k ≤ k - 1
unfolding link
link_falls ws k = omega arith

-- ---- one step

module _ (ws : List ℕ) (f stop j : ℕ) where
  pub list_step : (cs : List (Cond Compare)) → stop < j → list_in (suc f) ws stop j cs ≡ list_in f ws stop (link ws j) (cond_in f ws j ∷ cs)
  unfolding cond_in
  list_step cs h = let e = lt-ltb stop j h in rw (e, list_in)

  pub list_stop : (cs : List (Cond Compare)) → j ≤ stop → list_in (suc f) ws stop j cs ≡ cs
  unfolding cond_in
  list_stop cs h = let e = le-ltb stop j h in rw (e, list_in)

  pub reaches_step : stop < j → reaches (suc f) ws stop j ≡ reaches f ws stop (link ws j)
  unfolding reaches
  reaches_step h = let e = lt-ltb stop j h in rw (e, reaches)

  pub reaches_stop : j ≤ stop → reaches (suc f) ws stop j ≡ eqb j stop
  unfolding reaches
  reaches_stop h = let e = le-ltb stop j h in rw (e, reaches)

-- ---- steps enough are enough

module _ (ws : List ℕ) where
  mutual
    unfolding cond_in

    pub cond_fuel : (f g k : ℕ) → 0 < k → 2 * k ≤ f → 2 * k ≤ g → cond_in f ws k ≡ cond_in g ws k
    cond_fuel zero g k h a b = absurd (omega arith)
    cond_fuel (suc f) zero k h a b = absurd (omega arith)
    cond_fuel (suc f) (suc g) k h a b = ap (headed (node_at ws k)) (list_fuel f g (link ws k) (k - 1) [] (omega arith) (omega arith))

    pub list_fuel : (f g stop j : ℕ) (cs : List (Cond Compare)) → 2 * j + 1 ≤ f → 2 * j + 1 ≤ g → list_in f ws stop j cs ≡ list_in g ws stop j cs
    list_fuel zero g stop j cs a b = absurd (omega arith)
    list_fuel (suc f) zero stop j cs a b = absurd (omega arith)
    list_fuel (suc f) (suc g) stop j cs a b =
        go (dec_lt stop j) (λ h. list_fuel f g stop (link ws j) (cond_in f ws j ∷ cs) (let l = link_falls ws j in omega arith) (let l = link_falls ws j in omega arith))
        (λ h. cond_fuel f g j (omega arith) (omega arith) (omega arith))
      where
        go : Dec (stop < j) → (stop < j → list_in f ws stop (link ws j) (cond_in f ws j ∷ cs) ≡ list_in g ws stop (link ws j) (cond_in f ws j ∷ cs)) → (stop < j → cond_in f ws j ≡ cond_in g ws j)
            → list_in (suc f) ws stop j cs ≡ list_in (suc g) ws stop j cs
        go (yes h) l c = list_step ws f stop j cs h ∙ l h ∙ ap (λ x. list_in g ws stop (link ws j) (x ∷ cs)) (c h) ∙ sym (list_step ws g stop j cs h)
        go (no h) l c = list_stop ws f stop j cs (omega arith) ∙ sym (list_stop ws g stop j cs (omega arith))

  pub reaches_fuel : (f g stop j : ℕ) → j < f → j < g → reaches f ws stop j ≡ reaches g ws stop j
  reaches_fuel zero g stop j h k = absurd (omega arith)
  reaches_fuel (suc f) zero stop j h k = absurd (omega arith)
  reaches_fuel (suc f) (suc g) stop j h k = go (dec_lt stop j) (λ l. reaches_fuel f g stop (link ws j) (omega (arith, link_falls ws j)) (omega (arith, link_falls ws j)))
    where
      go : Dec (stop < j) → (stop < j → reaches f ws stop (link ws j) ≡ reaches g ws stop (link ws j)) → reaches (suc f) ws stop j ≡ reaches (suc g) ws stop j
      go (yes l) i = reaches_step ws f stop j l ∙ i l ∙ sym (reaches_step ws g stop j l)
      go (no l) i = reaches_stop ws f stop j (omega arith) ∙ sym (reaches_stop ws g stop j (omega arith))

  -- the condition that ends at a place, and the list that ends there, in front of others
  abbrev pub cond_of : ℕ → Cond Compare
  cond_of k = cond_in (2 * k) ws k

  abbrev pub list_before : ℕ → ℕ → List (Cond Compare) → List (Cond Compare)
  list_before stop j cs = list_in (2 * j + 1) ws stop j cs

  pub list_on : (stop j : ℕ) (cs : List (Cond Compare)) → stop < j → list_before stop j cs ≡ list_before stop (link ws j) (cond_of j ∷ cs)
  list_on stop j cs h =
      let l = link_falls ws j in
      let e : 2 * j + 1 ≡ suc (2 * j) = omega arith in
      ap (λ (f : ℕ). list_in f ws stop j cs) e ∙ list_step ws (2 * j) stop j cs h ∙ list_fuel (2 * j) (2 * link ws j + 1) stop (link ws j) (cond_in (2 * j) ws j ∷ cs) (omega arith) (omega arith)

  pub list_off : (stop j : ℕ) (cs : List (Cond Compare)) → j ≤ stop → list_before stop j cs ≡ cs
  list_off stop j cs h = let e : 2 * j + 1 ≡ suc (2 * j) = omega arith in ap (λ (f : ℕ). list_in f ws stop j cs) e ∙ list_stop ws (2 * j) stop j cs h

  list_append : (f stop j : ℕ) (cs : List (Cond Compare)) → list_in f ws stop j cs ≡ list_in f ws stop j [] ++ cs
  list_append zero stop j cs = unfold cond_in in refl
  list_append (suc f) stop j cs = go (dec_lt stop j) (list_append f stop (link ws j))
    where
      go : Dec (stop < j) → ((cs : List (Cond Compare)) → list_in f ws stop (link ws j) cs ≡ list_in f ws stop (link ws j) [] ++ cs) → list_in (suc f) ws stop j cs ≡ list_in (suc f) ws stop j [] ++ cs
      go (yes h) i =
          let c = cond_in f ws j in
          list_step ws f stop j cs h ∙ i (c ∷ cs) ∙ sym (ap (λ l. l ++ cs) (list_step ws f stop j [] h ∙ i (c ∷ [])) ∙ append_assoc (list_in f ws stop (link ws j) []) (c ∷ []) cs)
      go (no h) i = list_stop ws f stop j cs (omega arith) ∙ sym (ap (λ l. l ++ cs) (list_stop ws f stop j [] (omega arith)))

  -- by its last condition
  pub list_last : (stop j : ℕ) → stop < j → list_before stop j [] ≡ list_before stop (link ws j) [] ++ (cond_of j ∷ [])
  list_last stop j h = list_on stop j [] h ∙ list_append (2 * link ws j + 1) stop (link ws j) (cond_of j ∷ [])

  pub cond_on : (k : ℕ) → 0 < k → cond_of k ≡ headed (node_at ws k) (list_before (link ws k) (k - 1) [])
  unfolding cond_in
  cond_on k h =
      let e : 2 * k ≡ suc (2 * (k - 1) + 1) = omega arith in
      ap (λ (f : ℕ). cond_in f ws k) e

-- ---- a list that is not empty, and a node that heads none

some_kept : (f : ℕ) (ws : List ℕ) (stop j : ℕ) (c : Cond Compare) (cs : List (Cond Compare)) → empty? (list_in f ws stop j (c ∷ cs)) ≡ false
unfolding cond_in empty?
some_kept zero ws stop j c cs = refl
some_kept (suc f) ws stop j c cs = go (dec_lt stop j) (some_kept f ws stop (link ws j) (cond_in f ws j) (c ∷ cs))
  where
    go : Dec (stop < j) → empty? (list_in f ws stop (link ws j) (cond_in f ws j ∷ (c ∷ cs))) ≡ false → empty? (list_in (suc f) ws stop j (c ∷ cs)) ≡ false
    go (yes h) e = ap empty? (list_step ws f stop j (c ∷ cs) h) ∙ e
    go (no h) e = ap empty? (list_stop ws f stop j (c ∷ cs) (omega arith))

pub some_listed : (ws : List ℕ) (stop j : ℕ) → stop < j → empty? (list_before ws stop j []) ≡ false
some_listed ws stop j h = ap empty? (list_on ws stop j [] h) ∙ some_kept (2 * link ws j + 1) ws stop (link ws j) (cond_of ws j) []

pub test_headed : (m : Node) (cs : List (Cond Compare)) → (m.head ≡ 7 → ⊥) → (m.head ≡ 8 → ⊥) → (m.head ≡ 9 → ⊥) → headed m cs ≡ test (node_compare m)
unfolding headed
test_headed m cs a b c = rw (ne_eqb m.head 7 a, ne_eqb m.head 8 b, ne_eqb m.head 9 c)

-- ---- the first k words are the same

abbrev pub Same : List ℕ → List ℕ → ℕ → Type 0
Same vs ws k = (i : ℕ) → i < k → get_or vs i 0 ≡ get_or ws i 0

module _ (vs ws : List ℕ) where
  pub node_same : (k : ℕ) → Same vs ws k → node_at vs k ≡ node_at ws k
  unfolding node_at value_at
  node_same k h = go (dec_lt 0 k)
    where
      go : Dec (0 < k) → node_at vs k ≡ node_at ws k
      go (yes l) = rw (h (k - 1) (omega arith), h (k - 2) (omega arith), h (k - 3) (omega arith))
      go (no l) = let z : k ≡ 0 = omega arith in rw z

  pub link_same : (k : ℕ) → Same vs ws k → link vs k ≡ link ws k
  unfolding link
  link_same k h = ap (λ n. min n.before (k - 1)) (node_same k h)

  less : {j k : ℕ} → j ≤ k → Same vs ws k → Same vs ws j
  less l h = λ i m. h i (omega arith)

  mutual
    unfolding cond_in

    pub cond_same : (f k : ℕ) → Same vs ws k → cond_in f vs k ≡ cond_in f ws k
    cond_same zero k h = refl
    cond_same (suc f) k h =
        ap₂ headed (node_same k h) (ap (λ l. list_in f vs l (k - 1) []) (link_same k h) ∙ list_same f (link ws k) (k - 1) [] (less {j = k - 1} (omega arith) h))

    pub list_same : (f stop j : ℕ) (cs : List (Cond Compare)) → Same vs ws j → list_in f vs stop j cs ≡ list_in f ws stop j cs
    list_same zero stop j cs h = refl
    list_same (suc f) stop j cs h =
        let l = link_falls ws j in
        go (ltb stop j)
        (ap₂ (λ i c. list_in f vs stop i (c ∷ cs)) (link_same j h) (cond_same f j h) ∙ list_same f stop (link ws j) (cond_in f ws j ∷ cs) (less {j = link ws j} (omega arith) h))
      where
        go : (b : Bool) → list_in f vs stop (link vs j) (cond_in f vs j ∷ cs) ≡ list_in f ws stop (link ws j) (cond_in f ws j ∷ cs)
            → ◌≡◌ {A = List (Cond Compare)} (elim b [ true ↦ list_in f vs stop (link vs j) (cond_in f vs j ∷ cs) | false ↦ cs ]) (elim b [ true ↦ list_in f ws stop (link ws j) (cond_in f ws j ∷ cs) | false ↦ cs ])
        go true e = e
        go false e = refl

  pub reaches_same : (f stop j : ℕ) → Same vs ws j → reaches f vs stop j ≡ reaches f ws stop j
  unfolding reaches
  reaches_same zero stop j h = refl
  reaches_same (suc f) stop j h =
      let l = link_falls ws j in
      go (ltb stop j) (ap (reaches f vs stop) (link_same j h) ∙ reaches_same f stop (link ws j) (less {j = link ws j} (omega arith) h))
    where
      go : (b : Bool) → reaches f vs stop (link vs j) ≡ reaches f ws stop (link ws j)
          → ◌≡◌ {A = Bool} (elim b [ true ↦ reaches f vs stop (link vs j) | false ↦ eqb j stop ]) (elim b [ true ↦ reaches f ws stop (link ws j) | false ↦ eqb j stop ])
      go true e = e
      go false e = refl

  pub sound_same : (ok : Node → Bool) (k : ℕ) → Same vs ws k → node_sound ok vs k (node_at vs k) ≡ node_sound ok ws k (node_at ws k)
  unfolding node_sound linked
  sound_same ok k h =
      rw (node_same k h, reaches_same k (node_at ws k).before (k - 1) (less {j = k - 1} (omega arith) h), link_same (k - 1) (less {j = k - 1} (omega arith) h))

  pub all_same : (f : ℕ) (ok : Node → Bool) (k : ℕ) → Same vs ws k → all_sound f ok vs k ≡ all_sound f ok ws k
  unfolding all_sound
  all_same zero ok k h = refl
  all_same (suc f) ok k h =
      go (eqb k 0)
      (ap₂ ◌&&◌ (sound_same ok k h)
      (ap (λ n. all_sound f ok vs (k - node_words n)) (node_same k h) ∙ all_same f ok (k - node_words (node_at ws k)) (less {j = k - node_words (node_at ws k)} (omega arith) h)))
    where
      on : List ℕ → Bool
      on us = node_sound ok us k (node_at us k) && all_sound f ok us (k - node_words (node_at us k))

      go : (b : Bool) → on vs ≡ on ws → ◌≡◌ {A = Bool} (elim b [ true ↦ true | false ↦ on vs ]) (elim b [ true ↦ true | false ↦ on ws ])
      go true e = refl
      go false e = e

  pub nodes_same : (mask n : ℕ) → Same vs ws n → nodes_sound mask vs n ≡ nodes_sound mask ws n
  unfolding nodes_sound conditions_of
  nodes_same mask n h = rw (all_same (suc n) (terms_sound mask) n h, reaches_same (suc n) 0 n h, list_same (2 * n + 1) 0 n [] h)

-- ---- chains

-- the condition that ends at a place, for all steps that suffice
abbrev pub Stands : List ℕ → ℕ → Cond Compare → Type 0
Stands ws k c = (f : ℕ) → 2 * k ≤ f → cond_in f ws k ≡ c

pub data Chain (ws : List ℕ) (stop : ℕ) : ℕ → List (Cond Compare) → Type 0 where
  chain_end : Chain ws stop stop []
  chain_more : {i j : ℕ} {cs : List (Cond Compare)} {c : Cond Compare} → stop < j → link ws j ≡ i → Stands ws j c → Chain ws stop i cs → Chain ws stop j (cs ++ (c ∷ []))

module _ {ws : List ℕ} where
  pub chain_list : {stop j : ℕ} {cs : List (Cond Compare)} → Chain ws stop j cs → (f : ℕ) → 2 * j + 1 ≤ f → (ds : List (Cond Compare)) → list_in f ws stop j ds ≡ cs ++ ds
  chain_list h zero l ds = absurd (omega arith)
  chain_list {stop} chain_end (suc f) l ds = list_stop ws f stop stop ds (omega arith)
  chain_list {stop} (chain_more {i} {j} {cs} {c} m e s h) (suc f) l ds =
      let u = link_falls ws j in
      list_step ws f stop j ds m ∙ ap₂ (λ a b. list_in f ws stop a (b ∷ ds)) e (s f (omega arith)) ∙ chain_list h f (omega arith) (c ∷ ds) ∙ sym (append_assoc cs (c ∷ []) ds)

  pub chain_reaches : {stop j : ℕ} {cs : List (Cond Compare)} → Chain ws stop j cs → (f : ℕ) → j < f → reaches f ws stop j ≡ true
  chain_reaches h zero l = absurd (omega arith)
  chain_reaches {stop} chain_end (suc f) l = reaches_stop ws f stop stop (omega arith) ∙ eq-eqb stop stop refl
  chain_reaches {stop} (chain_more {i} {j} m e s h) (suc f) l =
      let u = link_falls ws j in
      reaches_step ws f stop j m ∙ ap (reaches f ws stop) e ∙ chain_reaches h f (omega arith)

  pub chain_up : {stop j : ℕ} {cs : List (Cond Compare)} → Chain ws stop j cs → stop ≤ j
  chain_up chain_end = omega arith
  chain_up (chain_more m e s h) = omega arith

  pub chain_join : {stop mid j : ℕ} {xs ys : List (Cond Compare)} → Chain ws stop mid xs → Chain ws mid j ys → Chain ws stop j (xs ++ ys)
  chain_join {xs} h chain_end = rw (append_nil xs) h
  chain_join {xs} h (chain_more {j} {cs} {c} m e s k) =
      let u = chain_up h in
      rw (sym (append_assoc xs cs (c ∷ []))) (chain_more {j = j} (omega arith) e s (chain_join h k))

  pub chain_same : {vs : List ℕ} {stop j : ℕ} {cs : List (Cond Compare)} → Same vs ws j → Chain vs stop j cs → Chain ws stop j cs
  chain_same h chain_end = chain_end
  chain_same {vs} h (chain_more {i} {j} m e s k) =
      let u = link_falls vs j in
      chain_more m (sym (link_same vs ws j h) ∙ e) (λ f l. sym (cond_same vs ws f j h) ∙ s f l) (chain_same (λ a l. h a (omega arith)) k)
