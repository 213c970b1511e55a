-- Whether words may be lent, test by test, in the order of the code.
use mathlib.Core.Path.{◌≡◌, refl, sym, ap, ◌∙◌}
use mathlib.Core.List.{List}
use mathlib.Core.Bool.{Bool, true, false, ◌&&◌, not, or-false}
use Prim.Native.Nat.{ℕ, zero, suc, ◌+◌, ◌-◌, ◌/◌, ◌≤◌, ◌<◌, min}
use native.Mathlib.Decide.{dec_lt, ℕ_discrete}
use native.Mathlib.Omega.{arith}
use lib.Dec.{T, eqb, leb, ltb}
use lib.ListN.{get_or}
use borrow.Author.Tests.{eq-eqb, ne_eqb, lt-ltb, le-ltb, le-leb, lt-leb, not-true, not-false}
use Rattle.lists.proofs.Laws.{true_T}
use Rattle.calls.specs.Validity.{valid_name}
use Rattle.text.specs.Words.{name_of}
use Rattle.masks.specs.Masks.{bit?}
use Rattle.nodes.specs.declared.Node.{Node}
use Rattle.nodes.specs.Nodes.{node_of, node_at, node_words, link, comparing, reaches, linked, in_mask, terms_sound, node_sound, conditions_of, all_sound, shallow_conds, nodes_sound}
use Rattle.nodes.proofs.Puts.{words_some}
use Rattle.nodes.proofs.Reaching.{link_falls, reaches_step, reaches_stop, reaches_fuel}

-- ---- links

module _ (ws : List ℕ) (k : ℕ) {w : ℕ} (e : w ≡ get_or ws (k - 1) 0) where
  before_word : (k ≡ 0 → ⊥) → (node_at ws k).before ≡ w / 16777216
  unfolding node_at node_of
  before_word ne = rw (ne_eqb k 0 ne, e)

  pub link_met : {s r : ℕ} → s ≡ k - 1 → r ≡ min (w / 16777216) s → r ≡ link ws k
  unfolding link
  link_met {s} {r} d h = go (ℕ_discrete k 0)
    where
      go : Dec (k ≡ 0) → r ≡ link ws k
      go (yes z) = omega arith
      go (no ne) = let b = before_word ne in omega arith

-- ---- down to a stop

module _ (ws : List ℕ) (stop : ℕ) where
  pub reaches_on : (j at : ℕ) {i : ℕ} → reaches (suc j) ws stop j ≡ reaches (suc at) ws stop at → stop < at → i ≡ link ws at → reaches (suc j) ws stop j ≡ reaches (suc i) ws stop i
  reaches_on j at {i} inv h e =
      let l = link_falls ws at in
      inv ∙ reaches_step ws at stop at h ∙ rw e (reaches_fuel ws at (suc (link ws at)) stop (link ws at) (omega arith) (omega arith))

  pub reaches_falls : (at : ℕ) {i : ℕ} → stop < at → i ≡ link ws at → i < at
  reaches_falls at h e = omega (arith, link_falls ws at)

  pub reaches_end : (j at : ℕ) → reaches (suc j) ws stop j ≡ reaches (suc at) ws stop at → at ≤ stop → eqb at stop ≡ reaches (suc j) ws stop j
  reaches_end j at inv h = sym (inv ∙ reaches_stop ws at stop at h)

pub ruleset reaches_ends = (reaches_falls, reaches_on, reaches_end)

-- ---- a node's link

pub compare_none : (n : Node) → n.head ≡ 0 → false ≡ comparing n
unfolding comparing
compare_none n e = rw (lt-leb 1 n.head (omega arith))

pub compare_some : (n : Node) → (n.head ≡ 0 → ⊥) → ltb n.head 7 ≡ comparing n
unfolding comparing
compare_some n e = go (dec_lt n.head 7)
  where
    go : Dec (n.head < 7) → ltb n.head 7 ≡ (leb 1 n.head && leb n.head 6)
    go (yes h) = rw (lt-ltb n.head 7 h, le-leb 1 n.head (omega arith), le-leb n.head 6 (omega arith))
    go (no h) = rw (le-ltb n.head 7 (omega arith), le-leb 1 n.head (omega arith), lt-leb n.head 6 (omega arith))

pub ruleset compare_ends = (compare_none, compare_some)

pub not_comparing : (n : Node) → 7 ≤ n.head → comparing n ≡ false
unfolding comparing
not_comparing n h = rw (le-leb 1 n.head (omega arith), lt-leb n.head 6 (omega arith))

module _ (ws : List ℕ) (k : ℕ) (n : Node) {x : Bool} (p : x ≡ comparing n) where
  pub linked_test : x ≡ true → {m : ℕ} → m ≡ node_words n → eqb (n.before + m) k ≡ linked ws k n
  unfolding linked
  linked_test t e = rw (sym p ∙ t, e)

  module _ (f : x ≡ false) where
    pub linked_right : (n.right ≡ 0 → ⊥) → false ≡ linked ws k n
    unfolding linked
    linked_right r = rw (sym p ∙ f, ne_eqb n.right 0 r)

    module _ (r : n.right ≡ 0) where
      pub linked_low : n.head < 7 → false ≡ linked ws k n
      unfolding linked
      linked_low h = rw (sym p ∙ f, eq-eqb n.right 0 r, lt-leb 7 n.head h)

      module _ (l : 7 ≤ n.head) where
        pub linked_high : 9 < n.head → false ≡ linked ws k n
        unfolding linked
        linked_high h = rw (sym p ∙ f, eq-eqb n.right 0 r, le-leb 7 n.head l, lt-leb n.head 9 h)

        module _ (h : n.head ≤ 9) where
          pub linked_tight : k ≤ n.before + 1 → false ≡ linked ws k n
          unfolding linked
          linked_tight g = rw (sym p ∙ f, eq-eqb n.right 0 r, le-leb 7 n.head l, le-leb n.head 9 h, le-ltb (suc n.before) k (omega arith))

          module _ (g : n.before + 1 < k) {s : Bool} (q : s ≡ reaches (suc (k - 1)) ws n.before (k - 1)) where
            at_stop : reaches k ws n.before (k - 1) ≡ s
            at_stop = let z : k ≡ suc (k - 1) = omega arith in ap (λ f. reaches f ws n.before (k - 1)) z ∙ sym q

            pub linked_astray : not s ≡ true → false ≡ linked ws k n
            unfolding linked
            linked_astray a = rw (sym p ∙ f, eq-eqb n.right 0 r, le-leb 7 n.head l, le-leb n.head 9 h, lt-ltb (suc n.before) k (omega arith), at_stop, not-true s a)

            pub linked_list : not s ≡ false → n.head < 9 → true ≡ linked ws k n
            unfolding linked
            linked_list a m = rw (sym p ∙ f, eq-eqb n.right 0 r, le-leb 7 n.head l, le-leb n.head 9 h, lt-ltb (suc n.before) k (omega arith), at_stop, not-false s a, lt-ltb n.head 9 m)

            pub linked_not : not s ≡ false → 9 ≤ n.head → {b : ℕ} → b ≡ link ws (k - 1) → eqb b n.before ≡ linked ws k n
            unfolding linked
            linked_not a m {b} e = rw (sym p ∙ f, eq-eqb n.right 0 r, le-leb 7 n.head l, le-leb n.head 9 h, lt-ltb (suc n.before) k (omega arith), at_stop, not-false s a, le-ltb n.head 9 m, ← e)

pub ruleset linked_ends = (linked_test, linked_right, linked_low, linked_high, linked_tight, linked_astray, linked_list, linked_not)

-- ---- terms

pub mask_past : (mask code : ℕ) → 24 ≤ code → false ≡ in_mask mask code
unfolding in_mask
mask_past mask code h = rw (le-ltb code 24 h)

pub mask_bit : (mask code : ℕ) {x : Bool} → code < 24 → x ≡ bit? mask code → x ≡ in_mask mask code
unfolding in_mask
mask_bit mask code h e = rw (lt-ltb code 24 h) e

pub ruleset mask_ends = (mask_past, mask_bit)

module _ (mask : ℕ) (n : Node) {x : Bool} (p : x ≡ in_mask mask n.left) where
  pub terms_left : not x ≡ true → false ≡ terms_sound mask n
  unfolding terms_sound
  terms_left f = rw (sym p ∙ not-true x f)

  module _ (t : not x ≡ false) {y : Bool} (q : y ≡ in_mask mask n.right) where
    pub terms_column : y ≡ true → true ≡ terms_sound mask n
    unfolding terms_sound
    terms_column g = rw (sym p ∙ not-false x t, sym q ∙ g)

    module _ (g : y ≡ false) where
      pub terms_number : n.right ≡ 26 → ltb n.value 4294967296 ≡ terms_sound mask n
      unfolding terms_sound
      terms_number e = rw (sym p ∙ not-false x t, sym q ∙ g, eq-eqb n.right 26 e, ne_eqb n.right 27 (λ i. omega arith)) (sym (or-false (ltb n.value 4294967296)))

      pub terms_entry : (n.right ≡ 26 → ⊥) → n.right ≡ 27 → {z : Bool} → z ≡ valid_name (name_of n.value) → z ≡ terms_sound mask n
      unfolding terms_sound
      terms_entry ne e {z} v = rw (sym p ∙ not-false x t, sym q ∙ g, ne_eqb n.right 26 ne, eq-eqb n.right 27 e, ← v)

      pub terms_none : (n.right ≡ 26 → ⊥) → (n.right ≡ 27 → ⊥) → false ≡ terms_sound mask n
      unfolding terms_sound
      terms_none ne nf = rw (sym p ∙ not-false x t, sym q ∙ g, ne_eqb n.right 26 ne, ne_eqb n.right 27 nf)

pub ruleset terms_ends = (terms_left, terms_column, terms_number, terms_entry, terms_none)

-- ---- a node, and those before it

module _ (ok : Node → Bool) (ws : List ℕ) (k : ℕ) (n : Node) {x : Bool} (p : x ≡ linked ws k n) where
  pub node_unlinked : not x ≡ true → false ≡ node_sound ok ws k n
  unfolding node_sound
  node_unlinked f = rw (sym p ∙ not-true x f)

  module _ (t : not x ≡ false) {y : Bool} (q : y ≡ comparing n) where
    pub node_inner : not y ≡ true → true ≡ node_sound ok ws k n
    unfolding node_sound
    node_inner f = rw (sym p ∙ not-false x t, sym q ∙ not-true y f)

    pub node_test : not y ≡ false → {z : Bool} → z ≡ ok n → z ≡ node_sound ok ws k n
    unfolding node_sound
    node_test f {z} v = rw (sym p ∙ not-false x t, sym q ∙ not-false y f, ← v)

pub ruleset sound_ends = (node_unlinked, node_inner, node_test)

module _ (ok : Node → Bool) (ws : List ℕ) where
  pub all_none : (f k : ℕ) → k ≡ 0 → all_sound f ok ws k ≡ true
  unfolding all_sound
  all_none zero k e = refl
  all_none (suc f) k e = let z = eq-eqb k 0 e in rw (z, all_sound)

  pub all_step : (f k : ℕ) → 0 < k → all_sound (suc f) ok ws k ≡ (node_sound ok ws k (node_at ws k) && all_sound f ok ws (k - node_words (node_at ws k)))
  unfolding all_sound
  all_step f k h = let z = ne_eqb k 0 (λ e. omega arith) in rw (z, all_sound)

  -- steps enough are enough
  pub all_fuel : (f g k : ℕ) → k < f → k < g → all_sound f ok ws k ≡ all_sound g ok ws k
  all_fuel zero g k h i = absurd (omega arith)
  all_fuel (suc f) zero k h i = absurd (omega arith)
  all_fuel (suc f) (suc g) k h i =
      go (dec_lt 0 k) (λ l. all_fuel f g (k - node_words (node_at ws k)) (omega (arith, words_some (node_at ws k))) (omega (arith, words_some (node_at ws k))))
    where
      go : Dec (0 < k) → (0 < k → all_sound f ok ws (k - node_words (node_at ws k)) ≡ all_sound g ok ws (k - node_words (node_at ws k))) → all_sound (suc f) ok ws k ≡ all_sound (suc g) ok ws k
      go (yes l) r = all_step f k l ∙ ap (λ b. node_sound ok ws k (node_at ws k) && b) (r l) ∙ sym (all_step g k l)
      go (no l) r = all_none (suc f) k (omega arith) ∙ sym (all_none (suc g) k (omega arith))

  -- the walk goes on before a node's words
  pub all_before : (k : ℕ) → 0 < k → node_sound ok ws k (node_at ws k) ≡ true → all_sound (suc k) ok ws k ≡ all_sound (suc (k - node_words (node_at ws k))) ok ws (k - node_words (node_at ws k))
  all_before k h e =
      all_step k k h ∙ ap (λ b. b && all_sound k ok ws (k - node_words (node_at ws k))) e
      ∙ all_fuel k (suc (k - node_words (node_at ws k))) (k - node_words (node_at ws k)) (omega (arith, words_some (node_at ws k))) (omega arith)

  -- all that is left of the first n
  abbrev pub left_sound : ℕ → Bool
  left_sound k = all_sound (suc k) ok ws k

  module _ (n k : ℕ) (inv : left_sound n ≡ left_sound k) where
    pub all_end : k ≤ 0 → true ≡ left_sound n
    all_end h = sym (inv ∙ all_none (suc k) k (omega arith))

    module _ (h : 0 < k) {m : Node} (e : m ≡ node_at ws k) {x : Bool} (p : x ≡ node_sound ok ws k m) where
      pub all_stop : not x ≡ true → false ≡ left_sound n
      all_stop f =
          let z : node_sound ok ws k (node_at ws k) ≡ false = ap (node_sound ok ws k) (sym e) ∙ sym p ∙ not-true x f in
          sym (inv ∙ all_step k k h ∙ ap (λ b. b && all_sound k ok ws (k - node_words (node_at ws k))) z)

      module _ {size j : ℕ} (d : size ≡ node_words m) (l : j ≡ k - size) where
        pub all_on : not x ≡ false → left_sound n ≡ left_sound j
        all_on f =
            let z : node_sound ok ws k (node_at ws k) ≡ true = ap (node_sound ok ws k) (sym e) ∙ sym p ∙ not-false x f in
            inv ∙ all_before k h z ∙ ap left_sound (ap (λ w. k - w) (ap node_words (sym e) ∙ sym d) ∙ sym l)

        pub all_falls : j < k
        all_falls = omega (arith, words_some m)

pub ruleset all_ends = (all_end, all_stop, all_falls, all_on)

module _ (mask : ℕ) (ws : List ℕ) (n : ℕ) {x : Bool} (p : x ≡ all_sound (suc n) (terms_sound mask) ws n) where
  pub nodes_stop : not x ≡ true → false ≡ nodes_sound mask ws n
  unfolding nodes_sound
  nodes_stop f = rw (sym p ∙ not-true x f)

  module _ (f : not x ≡ false) {y : Bool} (q : y ≡ reaches (suc n) ws 0 n) where
    pub nodes_astray : not y ≡ true → false ≡ nodes_sound mask ws n
    unfolding nodes_sound
    nodes_astray g = rw (sym p ∙ not-false x f, sym q ∙ not-true y g)

    pub nodes_end : not y ≡ false → {r : Bool} → ((ok : Node → Bool) → T (all_sound (suc n) ok ws n) → T (reaches (suc n) ws 0 n) → r ≡ shallow_conds (conditions_of ws n)) → r ≡ nodes_sound mask ws n
    unfolding nodes_sound
    nodes_end g e =
        let a = sym p ∙ not-false x f in
        let b = sym q ∙ not-false y g in
        rw (a, b) (e (terms_sound mask) (true_T (all_sound (suc n) (terms_sound mask) ws n) a) (true_T (reaches (suc n) ws 0 n) b))

pub ruleset nodes_ends = (nodes_stop, nodes_astray, nodes_end)
