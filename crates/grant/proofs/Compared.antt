-- What a grant asks of a comparison and of conditions, by the nodes of their comparisons.
use mathlib.Core.Path.{◌≡◌, refl, sym, ap₂, ◌∙◌}
use mathlib.Core.List.{List, [], ◌∷◌, ◌++◌}
use mathlib.Core.Bool.{Bool, true, false, ◌&&◌, ◌||◌, cond, and-true}
use Prim.Native.Nat.{ℕ, ◌+◌, ◌*◌, ◌-◌, ◌/◌, ◌%◌, ◌≤◌, ◌<◌}
use native.Mathlib.Decide.{dec_lt, ℕ_discrete}
use native.Mathlib.Omega.{arith}
use lib.IntN.{ℤ, pos, negsuc}
use lib.Dec.{T, eqb, leb, ltb}
use borrow.Author.Tests.{eq-eqb, ne_eqb, lt-ltb, le-ltb, le-leb, lt-leb}
use Rattle.lists.specs.Lists.{every, gather}
use Rattle.lists.proofs.Laws.{and_l, and_r, and_both, parts, every_append, every_append_l, every_append_r, every_weaken, every_gather, every_gathered, same_truth}
use Rattle.lists.proofs.Gathers.{every_append_same}
use Rattle.nodes.proofs.Conditions.{column_term}
use Rattle.syntax.specs.Grammar.{name?, Cond}
use Rattle.syntax.specs.Limits.{is_value}
use Rattle.model.specs.Conditions.{tests}
use Rattle.model.specs.Queries.{col, figure, Term, column, time, number, self, Compare}
use Rattle.model.specs.Checks.{term_cols, cond_cols, when_left, when_right, grantable}
use Rattle.calls.specs.Validity.{valid_name, valid_term, valid_cond}
use Rattle.text.specs.Words.{bytes_from, name_of}
use Rattle.nodes.specs.declared.Node.{Node}
use Rattle.nodes.specs.Nodes.{unbiased, coded_term, node_compare, in_mask, column_in, terms_sound}

-- ---- terms

-- what a grant asks of each side of a comparison
unfoldable left_fit : ℕ → Term → Bool
left_fit mask t = when_left t && (valid_term t && every (column_in mask) (term_cols t))

unfoldable right_fit : ℕ → Term → Bool
right_fit mask t = when_right t && (valid_term t && every (column_in mask) (term_cols t))

pub compare_fit : ℕ → Compare → Bool
compare_fit mask t = left_fit mask t.left && right_fit mask t.right

number_value : (v : ℕ) → is_value (unbiased v) ≡ ltb v 4294967296
unfolding unbiased is_value
number_value v = go (dec_lt v 2147483648)
  where
    high : Dec (v < 4294967296) → 2147483648 ≤ v → leb (v - 2147483648) 2147483647 ≡ ltb v 4294967296
    high (yes m) l = rw (le-leb (v - 2147483648) 2147483647 (omega arith), lt-ltb v 4294967296 m)
    high (no m) l = rw (lt-leb (v - 2147483648) 2147483647 (omega arith), le-ltb v 4294967296 (omega arith))

    go : Dec (v < 2147483648) → is_value (cond (leb 2147483648 v) (pos (v - 2147483648)) (negsuc (2147483647 - v))) ≡ ltb v 4294967296
    go (yes l) = rw (lt-leb 2147483648 v l, le-leb (2147483647 - v) 2147483647 (omega arith), lt-ltb v 4294967296 (omega arith))
    go (no l) = rw (le-leb 2147483648 v (omega arith)) (high (dec_lt v 4294967296) (omega arith))

no_name : (v : ℕ) → v ≡ 0 → valid_name (name_of v) ≡ false
unfolding name_of bytes_from valid_name name?
no_name v e = rw e

column_masked : (mask code : ℕ) → column_in mask (col (code / 6) (code % 6)) ≡ in_mask mask code
unfolding column_in
column_masked mask code =
    let e : code / 6 * 6 + code % 6 ≡ code = omega arith in
    rw (lt-ltb (code % 6) 6 (omega arith), e)

unmasked : (mask code : ℕ) → 24 ≤ code → in_mask mask code ≡ false
unfolding in_mask
unmasked mask code h = rw (le-ltb code 24 h)

-- a column
module _ (mask code v : ℕ) (h : code < 24) where
  column_left : in_mask mask code ≡ left_fit mask (coded_term code v)
  unfolding left_fit when_left valid_term term_cols every
  column_left = rw (column_term code v h) (sym (and-true (column_in mask (col (code / 6) (code % 6))) ∙ column_masked mask code))

  column_right : in_mask mask code ≡ right_fit mask (coded_term code v)
  unfolding right_fit when_right valid_term term_cols every
  column_right = rw (column_term code v h) (sym (and-true (column_in mask (col (code / 6) (code % 6))) ∙ column_masked mask code))

-- what stands past the columns
other_left : (mask : ℕ) (a b c : Bool) (z : ℤ) (n : List ℕ) → left_fit mask (cond a time (cond b (column figure) (cond c (number z) (self n)))) ≡ false
unfolding left_fit when_left valid_term term_cols every column_in
other_left mask true b c z n = refl
other_left mask false true c z n = refl
other_left mask false false true z n = refl
other_left mask false false false z n = refl

left_is : (mask code v : ℕ) → in_mask mask code ≡ left_fit mask (coded_term code v)
unfolding coded_term
left_is mask code v = go (dec_lt code 24)
  where
    go : Dec (code < 24) → in_mask mask code ≡ left_fit mask (coded_term code v)
    go (yes h) = column_left mask code v h
    go (no h) = unmasked mask code (omega arith) ∙ sym (rw (le-ltb code 24 (omega arith)) (other_left mask (eqb code 24) (eqb code 25) (eqb code 26) (unbiased v) (name_of v)))

-- the right side of a comparison as the nodes' test has it
abbrev right_test : ℕ → ℕ → ℕ → Bool
right_test mask code v = in_mask mask code || eqb code 26 && ltb v 4294967296 || eqb code 27 && valid_name (name_of v)

module _ (mask code v : ℕ) (zero_value : (code ≡ 26 → ⊥) → (code ≡ 27 → ⊥) → v ≡ 0) where
  right_low : code < 24 → right_test mask code v ≡ right_fit mask (coded_term code v)
  right_low h = rw (ne_eqb code 26 (λ e. omega arith), ne_eqb code 27 (λ e. omega arith)) (or_none (in_mask mask code) ∙ column_right mask code v h)
    where
      or_none : (a : Bool) → ((a || false) || false) ≡ a
      or_none true = refl
      or_none false = refl

  right_time : code ≡ 24 → right_test mask code v ≡ right_fit mask (coded_term code v)
  unfolding coded_term right_fit when_right in_mask
  right_time e = rw e

  right_figure : code ≡ 25 → right_test mask code v ≡ right_fit mask (coded_term code v)
  unfolding coded_term right_fit when_right valid_term term_cols every column_in in_mask
  right_figure e = rw e

  right_number : code ≡ 26 → right_test mask code v ≡ right_fit mask (coded_term code v)
  unfolding coded_term right_fit when_right valid_term term_cols every in_mask
  right_number e = rw e (or_none (ltb v 4294967296) ∙ sym (and-true (is_value (unbiased v)) ∙ number_value v))
    where
      or_none : (a : Bool) → (a || false) ≡ a
      or_none true = refl
      or_none false = refl

  right_entry : 26 < code → right_test mask code v ≡ right_fit mask (coded_term code v)
  unfolding coded_term right_fit when_right valid_term term_cols every
  right_entry h =
      rw (unmasked mask code (omega arith), ne_eqb code 26 (λ e. omega arith), le-ltb code 24 (omega arith), ne_eqb code 24 (λ e. omega arith), ne_eqb code 25 (λ e. omega arith))
      (go (ℕ_discrete code 27))
    where
      go : Dec (code ≡ 27) → (eqb code 27 && valid_name (name_of v)) ≡ (valid_name (name_of v) && true)
      go (yes e) = rw (eq-eqb code 27 e) (sym (and-true (valid_name (name_of v))))
      go (no e) = rw (ne_eqb code 27 e, no_name v (zero_value (λ i. omega arith) e))

  right_is : right_test mask code v ≡ right_fit mask (coded_term code v)
  right_is = go (dec_lt code 24) (ℕ_discrete code 24) (ℕ_discrete code 25) (ℕ_discrete code 26)
    where
      go : Dec (code < 24) → Dec (code ≡ 24) → Dec (code ≡ 25) → Dec (code ≡ 26) → right_test mask code v ≡ right_fit mask (coded_term code v)
      go (yes h) b c d = right_low h
      go (no h) (yes b) c d = right_time b
      go (no h) (no b) (yes c) d = right_figure c
      go (no h) (no b) (no c) (yes d) = right_number d
      go (no h) (no b) (no c) (no d) = right_entry (omega arith)

-- a node's terms are what a grant asks of its comparison
pub terms_are : (mask : ℕ) (n : Node) → ((n.right ≡ 26 → ⊥) → (n.right ≡ 27 → ⊥) → n.value ≡ 0) → terms_sound mask n ≡ compare_fit mask (node_compare n)
unfolding terms_sound compare_fit node_compare
terms_are mask n z = ap₂ ◌&&◌ (left_is mask n.left n.value) (right_is mask n.right n.value z)

-- ---- conditions

-- what a grant asks of a condition
abbrev pub cond_fit : ℕ → Cond Compare → Bool
cond_fit mask c = grantable c && valid_cond c && every (column_in mask) (cond_cols c)

module _ (mask : ℕ) (a : Compare) where
  module _ (h : T (compare_fit mask a)) where
    fit_left : T (when_left a.left && (valid_term a.left && every (column_in mask) (term_cols a.left)))
    unfolding compare_fit left_fit
    fit_left = and_l (left_fit mask a.left) (right_fit mask a.right) h

    fit_right : T (when_right a.right && (valid_term a.right && every (column_in mask) (term_cols a.right)))
    unfolding compare_fit right_fit
    fit_right = and_r (left_fit mask a.left) (right_fit mask a.right) h

    fit_placed : T (when_left a.left && when_right a.right)
    fit_placed =
        let l = fit_left in
        let r = fit_right in
        and_both (when_left a.left) (when_right a.right) (search parts) (search parts)

    fit_valid : T (valid_term a.left && valid_term a.right)
    fit_valid =
        let l = fit_left in
        let r = fit_right in
        and_both (valid_term a.left) (valid_term a.right) (search parts) (search parts)

    fit_masked : T (every (column_in mask) (term_cols a.left ++ term_cols a.right))
    fit_masked =
        let l = fit_left in
        let r = fit_right in
        every_append (column_in mask) (term_cols a.left) (term_cols a.right) (search parts) (search parts)

  fit_made : T (when_left a.left && when_right a.right) → T (valid_term a.left && valid_term a.right) → T (every (column_in mask) (term_cols a.left ++ term_cols a.right)) → T (compare_fit mask a)
  unfolding compare_fit left_fit right_fit
  fit_made u v w =
      and_both (left_fit mask a.left) (right_fit mask a.right)
      (and_both (when_left a.left) _ (search parts) (and_both (valid_term a.left) _ (search parts) (every_append_l (column_in mask) (term_cols a.left) (term_cols a.right) w)))
      (and_both (when_right a.right) _ (search parts) (and_both (valid_term a.right) _ (search parts) (every_append_r (column_in mask) (term_cols a.left) (term_cols a.right) w)))

three : {A : Type 0} (p q r s : A → Bool) → ((x : A) → T (p x) → T (q x) → T (r x) → T (s x)) → (xs : List A) → T (every p xs) → T (every q xs) → T (every r xs) → T (every s xs)
unfolding every
three p q r s f [] t u v = tt
three p q r s f (x ∷ xs) t u v = and_both (s x) (every s xs) (f x (search parts) (search parts) (search parts)) (three p q r s f xs (search parts) (search parts) (search parts))

cond_is : (mask : ℕ) (c : Cond Compare) → cond_fit mask c ≡ every (compare_fit mask) (tests c)
unfolding grantable valid_cond cond_cols
cond_is mask c =
    same_truth (cond_fit mask c) (every (compare_fit mask) (tests c))
    (λ t. three _ _ _ (compare_fit mask) (fit_made mask) (tests c)
    (and_l (grantable c) (valid_cond c) (and_l (grantable c && valid_cond c) (every (column_in mask) (cond_cols c)) t))
    (and_r (grantable c) (valid_cond c) (and_l (grantable c && valid_cond c) (every (column_in mask) (cond_cols c)) t))
    (every_gather (column_in mask) (λ t. term_cols t.left ++ term_cols t.right) (tests c) (and_r (grantable c && valid_cond c) (every (column_in mask) (cond_cols c)) t)))
    (λ t. and_both (grantable c && valid_cond c) (every (column_in mask) (cond_cols c))
    (and_both (grantable c) (valid_cond c) (every_weaken (compare_fit mask) _ (fit_placed mask) (tests c) t) (every_weaken (compare_fit mask) _ (fit_valid mask) (tests c) t))
    (every_gathered (column_in mask) (λ t. term_cols t.left ++ term_cols t.right) (tests c) (every_weaken (compare_fit mask) _ (fit_masked mask) (tests c) t)))

pub conditions_are : (mask : ℕ) (cs : List (Cond Compare)) → every (cond_fit mask) cs ≡ every (compare_fit mask) (gather tests cs)
unfolding every gather
conditions_are mask [] = refl
conditions_are mask (c ∷ cs) = ap₂ ◌&&◌ (cond_is mask c) (conditions_are mask cs) ∙ sym (every_append_same (compare_fit mask) (tests c) (gather tests cs))
