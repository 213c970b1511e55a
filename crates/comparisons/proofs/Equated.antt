-- Whether one of some conditions is the equality of two columns, step by step.
use mathlib.Core.Path.{◌≡◌, refl, sym, ap, ap₂, ◌∙◌}
use mathlib.Core.List.{List, [], ◌∷◌}
use mathlib.Core.Bool.{Bool, true, false, ◌&&◌, ◌||◌, cond, or-false, or-true}
use Prim.Native.Nat.{ℕ, ◌/◌, ◌%◌, ◌≤◌, ◌<◌}
use native.Mathlib.Decide.{dec_lt, ℕ_discrete}
use native.Mathlib.Omega.{arith}
use lib.Dec.{eqb}
use borrow.Author.Tests.{eq-eqb, ne_eqb, lt-ltb, le-ltb}
use Rattle.lists.specs.Lists.{some?}
use Rattle.lists.proofs.Laws.{and_true, and_false}
use Rattle.lists.proofs.Gathers.{some_append}
use Rattle.syntax.specs.Grammar.{eq, ne, lt, le, gt, ge, Cond}
use Rattle.model.specs.Queries.{figure, same_col, column, time, number, self, Compare}
use Rattle.model.specs.Routes.{is_eq, is_col, is_equality}
use Rattle.text.specs.Words.{name_of}
use Rattle.nodes.specs.declared.Node.{Node}
use Rattle.nodes.specs.Nodes.{unbiased, node_at, node_compare, numbered_op, coded_term, link, headed, conditions_of}
use Rattle.nodes.proofs.Conditions.{column_term}
use Rattle.nodes.proofs.Reaching.{link_falls, cond_of, list_before, list_off, cond_on, list_last}
use Rattle.query.specs.Forms.{coded_col}
use Rattle.comparisons.specs.Compared.{column_code, node_equates}

-- ---- codes of columns

pub code_low : (c : ℕ) → c < 24 → c ≡ column_code c
unfolding column_code
code_low c h = rw (lt-ltb c 24 h)

pub code_high : (c : ℕ) → 24 ≤ c → 25 ≡ column_code c
unfolding column_code
code_high c h = rw (le-ltb c 24 h)

pub ruleset code_ends = (code_low, code_high)

-- a term by its code is a column by its code
is_code : (a code v : ℕ) → is_col (coded_col a) (coded_term code v) ≡ eqb code (column_code a)
is_code a code v = go (dec_lt a 24) (dec_lt code 24)
  where
    other : 24 ≤ code → is_col (coded_col a) (coded_term code v) ≡ (eqb code 25 && same_col (coded_col a) figure)
    other h = unfold coded_term in rw (le-ltb code 24 h) (by (ℕ_discrete code 24) (ℕ_discrete code 25) (eqb code 26))
      where
        by : Dec (code ≡ 24) → Dec (code ≡ 25) → (z : Bool) → is_col (coded_col a) (cond (eqb code 24) time (cond (eqb code 25) (column figure) (cond z (number (unbiased v)) (self (name_of v))))) ≡ (eqb code 25 && same_col (coded_col a) figure)
        by (yes x) y z = unfold is_col in rw (eq-eqb code 24 x, ne_eqb code 25 (λ i. omega arith))
        by (no x) (yes y) z = unfold is_col in rw (ne_eqb code 24 x, eq-eqb code 25 y)
        by (no x) (no y) true = unfold is_col in rw (ne_eqb code 24 x, ne_eqb code 25 y)
        by (no x) (no y) false = unfold is_col in rw (ne_eqb code 24 x, ne_eqb code 25 y)

    go : Dec (a < 24) → Dec (code < 24) → is_col (coded_col a) (coded_term code v) ≡ eqb code (column_code a)
    go (yes h) (yes l) = ap (is_col (coded_col a)) (column_term code v l) ∙ (unfold is_col coded_col same_col column_code in rw (lt-ltb a 24 h) (both (ℕ_discrete code a)))
      where
        both : Dec (code ≡ a) → (eqb (a / 6) (code / 6) && eqb (a % 6) (code % 6)) ≡ eqb code a
        both (yes e) = rw (eq-eqb code a e, eq-eqb (a / 6) (code / 6) (omega arith), eq-eqb (a % 6) (code % 6) (omega arith))
        both (no e) = rw (ne_eqb code a e) (apart (ℕ_discrete (a / 6) (code / 6)))
          where
            apart : Dec (a / 6 ≡ code / 6) → (eqb (a / 6) (code / 6) && eqb (a % 6) (code % 6)) ≡ false
            apart (yes f) = rw (eq-eqb (a / 6) (code / 6) f, ne_eqb (a % 6) (code % 6) (λ g. e (omega arith)))
            apart (no f) = rw (ne_eqb (a / 6) (code / 6) f)
    go (no h) (yes l) = ap (is_col (coded_col a)) (column_term code v l) ∙ (unfold is_col coded_col same_col column_code in rw (le-ltb a 24 (omega arith), ne_eqb code 25 (λ e. omega arith)))
    go (yes h) (no l) = other (omega arith) ∙ (unfold coded_col same_col column_code in rw (lt-ltb a 24 h, ne_eqb code a (λ e. omega arith)) (and_false (eqb code 25)))
    go (no h) (no l) = other (omega arith) ∙ (unfold coded_col same_col column_code in rw (le-ltb a 24 (omega arith)) (and_true (eqb code 25)))

-- ---- a node

numbered_eq : (h : ℕ) → is_eq (numbered_op h) ≡ eqb h 1
unfolding is_eq numbered_op
numbered_eq h = go (eqb h 1) (eqb h 2) (eqb h 3) (eqb h 4) (eqb h 5)
  where
    go : (a b c d e : Bool) → is_eq (cond a eq (cond b ne (cond c lt (cond d le (cond e gt ge))))) ≡ a
    go true b c d e = refl
    go false true c d e = refl
    go false false true d e = refl
    go false false false true e = refl
    go false false false false true = refl
    go false false false false false = refl

pub equates_other : (n : Node) (a b : ℕ) → (n.head ≡ 1 → ⊥) → false ≡ node_equates n (column_code a) (column_code b)
unfolding node_equates
equates_other n a b e = rw (ne_eqb n.head 1 e)

-- the condition of a head is such an equality where its node is
headed_equates : (n : Node) (cs : List (Cond Compare)) (a b : ℕ) → is_equality (coded_col a) (coded_col b) (headed n cs) ≡ node_equates n (column_code a) (column_code b)
headed_equates n cs a b = go (ℕ_discrete n.head 7) (ℕ_discrete n.head 8) (ℕ_discrete n.head 9)
  where
    go : Dec (n.head ≡ 7) → Dec (n.head ≡ 8) → Dec (n.head ≡ 9) → is_equality (coded_col a) (coded_col b) (headed n cs) ≡ node_equates n (column_code a) (column_code b)
    go (yes x) y z = unfold headed is_equality in rw (eq-eqb n.head 7 x) (equates_other n a b (λ i. omega arith))
    go (no x) (yes y) z = unfold headed is_equality in rw (ne_eqb n.head 7 x, eq-eqb n.head 8 y) (equates_other n a b (λ i. omega arith))
    go (no x) (no y) (yes z) = unfold headed is_equality in rw (ne_eqb n.head 7 x, ne_eqb n.head 8 y, eq-eqb n.head 9 z) (equates_other n a b (λ i. omega arith))
    go (no x) (no y) (no z) = unfold headed is_equality node_compare node_equates in
        rw (ne_eqb n.head 7 x, ne_eqb n.head 8 y, ne_eqb n.head 9 z, numbered_eq n.head, is_code a n.left n.value, is_code b n.right n.value, is_code b n.left n.value, is_code a n.right n.value)

pub terms_left : (n : Node) (a b : ℕ) → (n.left ≡ a → ⊥) → false ≡ (eqb n.left a && eqb n.right b)
terms_left n a b e = rw (ne_eqb n.left a e)

pub terms_right : (n : Node) (a b : ℕ) → n.left ≡ a → eqb n.right b ≡ (eqb n.left a && eqb n.right b)
terms_right n a b e = rw (eq-eqb n.left a e)

pub ruleset terms_ends = (terms_left, terms_right)

module _ (n : Node) (a b : ℕ) where
  module _ (h : n.head ≡ 1) {x y : ℕ} (e : x ≡ column_code a) (f : y ≡ column_code b) {p : Bool} (g : p ≡ (eqb n.left x && eqb n.right y)) where
    pub equates_first : p ≡ true → true ≡ node_equates n (column_code a) (column_code b)
    unfolding node_equates
    equates_first t = rw (eq-eqb n.head 1 h, sym (ap₂ (λ x y. eqb n.left x && eqb n.right y) e f) ∙ sym g ∙ t)

    pub equates_second : p ≡ false → {q : Bool} → q ≡ (eqb n.left y && eqb n.right x) → q ≡ node_equates n (column_code a) (column_code b)
    unfolding node_equates
    equates_second t {q} i = rw (eq-eqb n.head 1 h, sym (ap₂ (λ x y. eqb n.left x && eqb n.right y) e f) ∙ sym g ∙ t) (i ∙ ap₂ (λ x y. eqb n.left y && eqb n.right x) e f)

pub ruleset equates_ends = (equates_other, equates_first, equates_second)

-- ---- those of some words

module _ (ws : List ℕ) (n a b : ℕ) where
  abbrev P : Cond Compare → Bool
  P = is_equality (coded_col a) (coded_col b)

  -- one of those before a place
  abbrev pub equated_before : ℕ → Bool
  equated_before j = some? P (list_before ws 0 j [])

  pub equated_start : some? P (conditions_of ws n) ≡ equated_before n
  unfolding conditions_of
  equated_start = refl

  module _ (j : ℕ) {p : Bool} (inv : p ≡ equated_before j) where
    pub equated_end : j ≤ 0 → false ≡ p
    unfolding some?
    equated_end h = sym (inv ∙ rw (list_off ws 0 j [] h))

    module _ (h : 0 < j) {m : Node} (e : m ≡ node_at ws j) {x : Bool} (f : x ≡ node_equates m (column_code a) (column_code b)) where
      apart : p ≡ (equated_before (link ws j) || x)
      apart =
          inv ∙ ap (some? P) (list_last ws 0 j h) ∙ some_append P (list_before ws 0 (link ws j) []) (cond_of ws j ∷ [])
          ∙ ap (λ y. equated_before (link ws j) || y) (one ∙ ap P (cond_on ws j h) ∙ headed_equates (node_at ws j) _ a b ∙ ap (λ y. node_equates y (column_code a) (column_code b)) (sym e) ∙ sym f)
        where
          one : some? P (cond_of ws j ∷ []) ≡ P (cond_of ws j)
          one = unfold some? in or-false (P (cond_of ws j))

      pub equated_found : x ≡ true → true ≡ p
      equated_found t = sym (apart ∙ ap (λ y. equated_before (link ws j) || y) t ∙ or-true (equated_before (link ws j)))

      pub equated_on : x ≡ false → {i : ℕ} → i ≡ link ws j → p ≡ equated_before i
      equated_on t k = apart ∙ ap (λ y. equated_before (link ws j) || y) t ∙ or-false (equated_before (link ws j)) ∙ ap equated_before (sym k)

  pub equated_falls : (j : ℕ) {i : ℕ} → 0 < j → i ≡ link ws j → i < j
  equated_falls j h e = omega (arith, link_falls ws j)

pub ruleset equated_ends = (equated_start, equated_end, equated_found, equated_falls, equated_on)
