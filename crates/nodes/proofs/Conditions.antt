-- The conditions of nodes that may be lent are those of a grant over the columns of the mask.
use mathlib.Core.Path.{◌≡◌, refl}
use mathlib.Core.List.{List, [], ◌∷◌, ◌++◌}
use mathlib.Core.Bool.{Bool, true, false, ◌&&◌, ◌||◌, cond}
use Prim.Native.Nat.{ℕ, zero, suc, ◌+◌, ◌*◌, ◌-◌, ◌/◌, ◌%◌, ◌≤◌, ◌<◌}
use native.Mathlib.Decide.{dec_lt}
use native.Mathlib.Omega.{arith}
use lib.IntN.{pos, negsuc}
use lib.Dec.{T, eqb, leb, ltb, leb→le, ltb→lt, eqb→eq, le→leb, lt→ltb}
use lib.ListN.{length}
use borrow.Author.Tests.{eq-eqb, ne_eqb, lt-ltb, le-leb, lt-leb}
use Rattle.lists.specs.Lists.{every}
use Rattle.lists.proofs.Laws.{and_l, and_r, and_both, or_cases, parts, every_append, every_weaken, T_true, every_gathered}
use Rattle.syntax.specs.Grammar.{Cond, test}
use Rattle.model.specs.Conditions.{tests, tests_of, conds_of}
use Rattle.model.specs.Queries.{col, Term, column, Compare}
use Rattle.model.specs.Checks.{term_cols, cond_cols, when_left, when_right, grantable}
use Rattle.syntax.specs.Limits.{is_value}
use Rattle.calls.specs.Validity.{valid_name, valid_term, valid_cond}
use Rattle.text.specs.Words.{name_of}
use Rattle.nodes.specs.declared.Node.{Node}
use Rattle.nodes.specs.Nodes.{node_words, node_at, unbiased, coded_term, node_compare, link, some_conds, first_cond, headed, cond_in, list_in, conditions_of, comparing, reaches, linked, in_mask, column_in, terms_sound, node_sound, all_sound, shallow_conds, nodes_sound}
use Rattle.nodes.proofs.Words.{words_plain}
use Rattle.nodes.proofs.Puts.{words_some}
use Rattle.nodes.proofs.Reaching.{link_falls, list_step, list_stop, reaches_step, reaches_stop}
use Rattle.nodes.proofs.Tests.{all_step, all_before}
use Rattle.nodes.proofs.Stored.{Passes, low_head}

-- ---- terms

number_value : (v : ℕ) → v < 4294967296 → T (is_value (unbiased v))
unfolding unbiased is_value
number_value v h = go (dec_lt v 2147483648)
  where
    go : Dec (v < 2147483648) → T (is_value (cond (leb 2147483648 v) (pos (v - 2147483648)) (negsuc (2147483647 - v))))
    go (yes l) = rw (lt-leb 2147483648 v l) (le→leb (2147483647 - v) 2147483647 (omega arith))
    go (no l) = rw (le-leb 2147483648 v (omega arith)) (le→leb (v - 2147483648) 2147483647 (omega arith))

-- what a grant asks of each side of a comparison
unfoldable left_sound : ℕ → Term → Bool
left_sound mask t = when_left t && valid_term t && every (column_in mask) (term_cols t)

unfoldable right_sound : ℕ → Term → Bool
right_sound mask t = when_right t && valid_term t && every (column_in mask) (term_cols t)

pub column_term : (code v : ℕ) → code < 24 → coded_term code v ≡ column (col (code / 6) (code % 6))
unfolding coded_term
column_term code v h = rw (lt-ltb code 24 h)

column_masked : (mask code : ℕ) → T (in_mask mask code) → T (column_in mask (col (code / 6) (code % 6)))
unfolding column_in
column_masked mask code t =
    let e : code / 6 * 6 + code % 6 ≡ code = omega arith in
    and_both (ltb (code % 6) 6) _ (lt→ltb (code % 6) 6 (omega arith)) (rw e t)

below_24 : (mask code : ℕ) → T (in_mask mask code) → code < 24
unfolding in_mask
below_24 mask code t = ltb→lt code 24 (search parts)

left_column : (mask code v : ℕ) → T (in_mask mask code) → T (left_sound mask (coded_term code v))
unfolding left_sound when_left valid_term term_cols every
left_column mask code v t = rw (column_term code v (below_24 mask code t)) (and_both (column_in mask (col (code / 6) (code % 6))) true (column_masked mask code t) tt)

right_column : (mask code v : ℕ) → T (in_mask mask code) → T (right_sound mask (coded_term code v))
unfolding right_sound when_right valid_term term_cols every
right_column mask code v t = rw (column_term code v (below_24 mask code t)) (and_both (column_in mask (col (code / 6) (code % 6))) true (column_masked mask code t) tt)

right_number : (mask v : ℕ) → v < 4294967296 → T (right_sound mask (coded_term 26 v))
unfolding right_sound coded_term when_right valid_term term_cols every
right_number mask v h = and_both (is_value (unbiased v)) true (number_value v h) tt

right_entry : (mask v : ℕ) → T (valid_name (name_of v)) → T (right_sound mask (coded_term 27 v))
unfolding right_sound coded_term when_right valid_term term_cols every
right_entry mask v h = and_both (valid_name (name_of v)) true h tt

unfoldable test_sound : ℕ → Compare → Bool
test_sound mask t = left_sound mask t.left && right_sound mask t.right

compare_sound : (mask : ℕ) (n : Node) → T (terms_sound mask n) → T (test_sound mask (node_compare n))
unfolding terms_sound test_sound node_compare
compare_sound mask n t =
    and_both (left_sound mask (coded_term n.left n.value)) (right_sound mask (coded_term n.right n.value))
    (left_column mask n.left n.value (search parts))
    (or_cases (in_mask mask n.right || eqb n.right 26 && ltb n.value 4294967296) (eqb n.right 27 && valid_name (name_of n.value)) (and_r (in_mask mask n.left) _ t)
    (λ b. or_cases (in_mask mask n.right) (eqb n.right 26 && ltb n.value 4294967296) b
    (λ a. right_column mask n.right n.value a)
    (λ a. rw (eqb→eq n.right 26 (search parts)) (right_number mask n.value (ltb→lt n.value 4294967296 (search parts)))))
    (λ a. rw (eqb→eq n.right 27 (search parts)) (right_entry mask n.value (search parts))))

-- ---- conditions

-- every comparison of a condition
unfoldable cond_sound : ℕ → Cond Compare → Bool
cond_sound mask c = every (test_sound mask) (tests c)

-- what a grant asks of a comparison, and of a condition
module _ (mask : ℕ) (a : Compare) (h : T (test_sound mask a)) where
  sound_left : T (when_left a.left && valid_term a.left && every (column_in mask) (term_cols a.left))
  unfolding test_sound left_sound
  sound_left = and_l (left_sound mask a.left) (right_sound mask a.right) h

  sound_right : T (when_right a.right && valid_term a.right && every (column_in mask) (term_cols a.right))
  unfolding test_sound right_sound
  sound_right = and_r (left_sound mask a.left) (right_sound mask a.right) h

  placed : T (when_left a.left && when_right a.right)
  placed =
      let l = sound_left in
      let r = sound_right in
      and_both (when_left a.left) (when_right a.right) (search parts) (search parts)

  valid : T (valid_term a.left && valid_term a.right)
  valid =
      let l = sound_left in
      let r = sound_right in
      and_both (valid_term a.left) (valid_term a.right) (search parts) (search parts)

  masked : T (every (column_in mask) (term_cols a.left ++ term_cols a.right))
  masked =
      let l = sound_left in
      let r = sound_right in
      every_append (column_in mask) (term_cols a.left) (term_cols a.right) (search parts) (search parts)

granted : (mask : ℕ) (c : Cond Compare) → T (cond_sound mask c) → T (grantable c && valid_cond c && every (column_in mask) (cond_cols c))
unfolding cond_sound grantable valid_cond cond_cols
granted mask c t =
    and_both (grantable c && valid_cond c) (every (column_in mask) (cond_cols c))
    (and_both (grantable c) (valid_cond c) (every_weaken (test_sound mask) _ (placed mask) (tests c) t) (every_weaken (test_sound mask) _ (valid mask) (tests c) t))
    (every_gathered (column_in mask) (λ t. term_cols t.left ++ term_cols t.right) (tests c) (every_weaken (test_sound mask) _ (masked mask) (tests c) t))

-- ---- conditions of a list

some_sound : (mask : ℕ) (cs : List (Cond Compare)) → 0 < length cs → T (every (cond_sound mask) cs) → T (every (test_sound mask) (tests_of (some_conds cs)))
unfolding every cond_sound tests some_conds conds_of
some_sound mask [] l t = absurd (omega arith)
some_sound mask (c ∷ []) l t = and_l (every (test_sound mask) (tests c)) true t
some_sound mask (c ∷ d ∷ cs) l t =
    every_append (test_sound mask) (tests c) (tests_of (conds_of d cs)) (and_l (every (test_sound mask) (tests c)) (every (cond_sound mask) (d ∷ cs)) t)
    (some_sound mask (d ∷ cs) (omega arith) (and_r (every (test_sound mask) (tests c)) (every (cond_sound mask) (d ∷ cs)) t))

first_sound : (mask : ℕ) (cs : List (Cond Compare)) → 0 < length cs → T (every (cond_sound mask) cs) → T (every (test_sound mask) (tests (first_cond cs)))
unfolding every cond_sound first_cond
first_sound mask [] l t = absurd (omega arith)
first_sound mask (c ∷ cs) l t = and_l (every (test_sound mask) (tests c)) (every (cond_sound mask) cs) t

pub headed_test : (n : Node) (cs : List (Cond Compare)) → T (comparing n) → headed n cs ≡ test (node_compare n)
unfolding comparing
headed_test n cs c = low_head n cs (leb→le n.head 6 (search parts))

head_test : (mask : ℕ) (n : Node) (cs : List (Cond Compare)) → T (comparing n) → T (terms_sound mask n) → T (cond_sound mask (headed n cs))
unfolding cond_sound tests every
head_test mask n cs c t = rw (headed_test n cs c) (and_both (test_sound mask (node_compare n)) true (compare_sound mask n t) tt)

head_inner : (mask : ℕ) (n : Node) (cs : List (Cond Compare)) → 7 ≤ n.head → n.head ≤ 9 → 0 < length cs → T (every (cond_sound mask) cs) → T (cond_sound mask (headed n cs))
unfolding headed cond_sound tests
head_inner mask n cs low high some t = go (dec_lt n.head 8) (dec_lt n.head 9)
  where
    go : Dec (n.head < 8) → Dec (n.head < 9) → T (cond_sound mask (headed n cs))
    go (yes a) b = let e : n.head ≡ 7 = omega arith in rw (eq-eqb n.head 7 e) (some_sound mask cs some t)
    go (no a) (yes b) = let e : n.head ≡ 8 = omega arith in rw (ne_eqb n.head 7 (λ i. omega arith), eq-eqb n.head 8 e) (some_sound mask cs some t)
    go (no a) (no b) = let e : n.head ≡ 9 = omega arith in rw (ne_eqb n.head 7 (λ i. omega arith), ne_eqb n.head 8 (λ i. omega arith), eq-eqb n.head 9 e) (first_sound mask cs some t)

-- ---- nodes

list_long : (f : ℕ) (ws : List ℕ) (stop j : ℕ) (cs : List (Cond Compare)) → length cs ≤ length (list_in f ws stop j cs)
unfolding cond_in
list_long zero ws stop j cs = omega arith
list_long (suc f) ws stop j cs = go (ltb stop j) (list_long f ws stop (link ws j) (cond_in f ws j ∷ cs))
  where
    go : (b : Bool) → suc (length cs) ≤ length (list_in f ws stop (link ws j) (cond_in f ws j ∷ cs))
        → length cs ≤ length {A = Cond Compare} (elim b [ true ↦ list_in f ws stop (link ws j) (cond_in f ws j ∷ cs) | false ↦ cs ])
    go true h = omega arith
    go false h = omega arith

list_some : (f : ℕ) (ws : List ℕ) (stop j : ℕ) → stop < j → 0 < f → 0 < length (list_in f ws stop j [])
list_some zero ws stop j h l = absurd (omega arith)
list_some (suc f) ws stop j h l = rw (list_step ws f stop j [] h) (list_long f ws stop (link ws j) (cond_in f ws j ∷ []))

none_sound : (mask : ℕ) → T (every (cond_sound mask) [])
unfolding every
none_sound mask = tt

both_sound : (mask : ℕ) (c : Cond Compare) (cs : List (Cond Compare)) → T (cond_sound mask c) → T (every (cond_sound mask) cs) → T (every (cond_sound mask) (c ∷ cs))
unfolding every
both_sound mask c cs h t = and_both (cond_sound mask c) (every (cond_sound mask) cs) h t

link_below : (ws : List ℕ) (k : ℕ) → suc (node_at ws k).before < k → link ws k < k - 1
unfolding link
link_below ws k h = omega arith

pub link_inner : (ws : List ℕ) (k : ℕ) → suc (node_at ws k).before < k → link ws k ≡ (node_at ws k).before
unfolding link
link_inner ws k h = omega arith

-- ---- the walk back passes every place that links lead to

-- what soundness says of a node that has conditions inside
pub record Inner (ws : List ℕ) (k : ℕ) (n : Node) : Type 0 where
  pub right : n.right ≡ 0
  pub low : 7 ≤ n.head
  pub high : n.head ≤ 9
  pub up : suc n.before < k
  pub down : T (reaches k ws n.before (k - 1))
  pub one : 9 ≤ n.head → link ws (k - 1) ≡ n.before

module _ (ok : Node → Bool) (ws : List ℕ) (k : ℕ) (n : Node) (s : T (node_sound ok ws k n)) where
  sound_test : T (comparing n) → (n.before + node_words n ≡ k) × T (ok n)
  unfolding node_sound linked
  sound_test c =
      let e = T_true (comparing n) c in
      let t : T (eqb (n.before + node_words n) k && ok n) = rw e at s in
      (eqb→eq (n.before + node_words n) k (search parts), search parts)

  sound_inner : comparing n ≡ false → Inner ws k n
  unfolding node_sound linked
  sound_inner e =
      let t : T ((eqb n.right 0 && leb 7 n.head && leb n.head 9 && ltb (suc n.before) k && reaches k ws n.before (k - 1) && (ltb n.head 9 || eqb (link ws (k - 1)) n.before)) && true) = rw e at s in
      record {
        right = eqb→eq n.right 0 (search parts depth 9);
        low = leb→le 7 n.head (search parts depth 9);
        high = leb→le n.head 9 (search parts depth 9);
        up = ltb→lt (suc n.before) k (search parts depth 9);
        down = search parts depth 9;
        one = λ h.
            or_cases (ltb n.head 9) (eqb (link ws (k - 1)) n.before) (search parts depth 9) (λ a. let l = ltb→lt n.head 9 a in absurd (omega arith)) (λ a. eqb→eq (link ws (k - 1)) n.before a);
      }

module _ (ok : Node → Bool) (ws : List ℕ) where
  node_passed : (k : ℕ) → 0 < k → Passes ok ws k → T (node_sound ok ws k (node_at ws k))
  node_passed k h p = and_l (node_sound ok ws k (node_at ws k)) (all_sound k ok ws (k - node_words (node_at ws k))) (rw (all_step ok ws k k h) at p)

  before_passed : (k : ℕ) → 0 < k → Passes ok ws k → Passes ok ws (k - node_words (node_at ws k))
  before_passed k h p = rw (all_before ok ws k h (T_true (node_sound ok ws k (node_at ws k)) (node_passed k h p))) at p

  -- a test of a node, or a list inside it
  pub by_node : {X : Type 0} (k : ℕ) → 0 < k → Passes ok ws k → (T (comparing (node_at ws k)) → T (ok (node_at ws k)) → Passes ok ws (link ws k) → X)
      → (Inner ws k (node_at ws k) → Passes ok ws (k - 1) → X) → X
  unfolding link
  by_node {X} k h p f g = go (comparing (node_at ws k)) refl
    where
      go : (x : Bool) → comparing (node_at ws k) ≡ x → X
      go true e =
          let t = sound_test ok ws k (node_at ws k) (node_passed k h p) (rw e tt) in
          let m : k - node_words (node_at ws k) ≡ link ws k = let a = t.0 in let b = words_some (node_at ws k) in omega arith in
          f (rw e tt) t.1 (rw m at (before_passed k h p))
      go false e =
          let i = sound_inner ok ws k (node_at ws k) (node_passed k h p) e in
          let r = i.right in
          let m : k - node_words (node_at ws k) ≡ k - 1 = let w = words_plain (node_at ws k) (λ z. omega arith) (λ z. omega arith) in omega arith in
          g i (rw m at (before_passed k h p))

  pub before_falls : (k : ℕ) → 0 < k → Passes ok ws k → (node_at ws k).before < k
  before_falls k h p = go (comparing (node_at ws k)) refl
    where
      go : (x : Bool) → comparing (node_at ws k) ≡ x → (node_at ws k).before < k
      go true e =
          let t = (sound_test ok ws k (node_at ws k) (node_passed k h p) (rw e tt)).0 in
          let w = words_some (node_at ws k) in
          omega arith
      go false e = let u = (sound_inner ok ws k (node_at ws k) (node_passed k h p) e).up in omega arith

  -- links from a place whose walk is sound lead to such places, down to a stop that they reach
  reach_passed : (f stop j : ℕ) → ((i : ℕ) → 0 < i → i ≤ j → Passes ok ws i → Passes ok ws (link ws i)) → T (reaches f ws stop j) → Passes ok ws j → Passes ok ws stop
  unfolding reaches
  reach_passed zero stop j k t p = absurd t
  reach_passed (suc f) stop j k t p = go (dec_lt stop j) (λ l r. reach_passed f stop (link ws j) (λ i a b. k i a (omega (arith, link_falls ws j))) r (k j (omega arith) (omega arith) p))
    where
      go : Dec (stop < j) → (stop < j → T (reaches f ws stop (link ws j)) → Passes ok ws stop) → Passes ok ws stop
      go (yes l) r = r l (rw (reaches_step ws f stop j l) at t)
      go (no l) r =
          let e : j ≡ stop = eqb→eq j stop (rw (reaches_stop ws f stop j (omega arith)) at t) in
          rw e at p

  -- a bound on the place, for the induction
  links_passed : (n k : ℕ) → k ≤ n → 0 < k → Passes ok ws k → Passes ok ws (link ws k)
  links_passed zero k l h p = absurd (omega arith)
  links_passed (suc n) k l h p =
      by_node k h p (λ c t q. q)
      (λ i q.
      let u = i.up in
      let e : link ws k ≡ (node_at ws k).before = link_inner ws k u in
      rw e (reach_passed k (node_at ws k).before (k - 1) (λ j a b. links_passed n j (omega arith) a) i.down q))

  pub link_passed : (k : ℕ) → 0 < k → Passes ok ws k → Passes ok ws (link ws k)
  link_passed k h p = links_passed k k (omega arith) h p

-- ---- every comparison of the conditions has sound terms

module _ (mask : ℕ) (ws : List ℕ) where
  node_holds : (f k : ℕ) → 0 < k → 2 * k ≤ suc f → Passes (terms_sound mask) ws k → (Passes (terms_sound mask) ws (k - 1) → T (every (cond_sound mask) (list_in f ws (link ws k) (k - 1) [])))
      → T (cond_sound mask (headed (node_at ws k) (list_in f ws (link ws k) (k - 1) [])))
  node_holds f k h l p r =
      by_node (terms_sound mask) ws k h p (λ c t q. head_test mask (node_at ws k) _ c t)
      (λ i q. let u = i.up in head_inner mask (node_at ws k) _ i.low i.high (list_some f ws (link ws k) (k - 1) (link_below ws k u) (omega arith)) (r q))

  mutual
    unfolding cond_in

    cond_holds : (f k : ℕ) → 0 < k → 2 * k ≤ f → Passes (terms_sound mask) ws k → T (cond_sound mask (cond_in f ws k))
    cond_holds zero k h l p = absurd (omega arith)
    cond_holds (suc f) k h l p = node_holds f k h l p (λ q. list_holds f (link ws k) (k - 1) [] (omega arith) q (none_sound mask))

    list_holds : (f stop j : ℕ) (cs : List (Cond Compare)) → 2 * j + 1 ≤ f → Passes (terms_sound mask) ws j → T (every (cond_sound mask) cs) → T (every (cond_sound mask) (list_in f ws stop j cs))
    list_holds zero stop j cs l p t = absurd (omega arith)
    list_holds (suc f) stop j cs l p t =
        go (dec_lt stop j)
        (λ a. list_holds f stop (link ws j) (cond_in f ws j ∷ cs) (omega (arith, link_falls ws j)) (link_passed (terms_sound mask) ws j (omega arith) p) (both_sound mask (cond_in f ws j) cs (cond_holds f j (omega arith) (omega arith) p) t))
      where
        go : Dec (stop < j) → (stop < j → T (every (cond_sound mask) (list_in f ws stop (link ws j) (cond_in f ws j ∷ cs)))) → T (every (cond_sound mask) (list_in (suc f) ws stop j cs))
        go (yes a) i = rw (list_step ws f stop j cs a) (i a)
        go (no a) i = rw (list_stop ws f stop j cs (omega arith)) t

pub sound_conditions : (mask : ℕ) (ws : List ℕ) (n : ℕ) → T (nodes_sound mask ws n) → T (every (λ c. grantable c && valid_cond c && every (column_in mask) (cond_cols c)) (conditions_of ws n))
unfolding nodes_sound conditions_of
sound_conditions mask ws n t =
    every_weaken (cond_sound mask) _ (granted mask) (list_in (2 * n + 1) ws 0 n []) (list_holds mask ws (2 * n + 1) 0 n [] (omega arith) (search parts) (none_sound mask))

-- and none of them nests too deep
pub sound_shallow : (mask : ℕ) (ws : List ℕ) (n : ℕ) → T (nodes_sound mask ws n) → T (shallow_conds (conditions_of ws n))
unfolding nodes_sound
sound_shallow mask ws n t = search parts
