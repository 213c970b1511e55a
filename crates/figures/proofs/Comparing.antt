-- Terms and comparisons of an answer row, as the code makes them.
use mathlib.Core.Path.{◌≡◌, refl, sym, ap, ap₂, ◌∙◌}
use mathlib.Core.List.{List, [], ◌∷◌}
use mathlib.Core.Bool.{Bool, true, false, ◌&&◌, ◌||◌, not, cond}
use Prim.Native.Nat.{ℕ, suc, ◌-◌, ◌/◌, ◌%◌, ◌≤◌, ◌<◌}
use native.Mathlib.Omega.{arith}
use native.Mathlib.Decide.{dec_lt}
use lib.IntN.{ℤ, pos, negsuc, ◌-ℤ◌}
use lib.Signed.{lt_z, le_z}
use lib.Dec.{leb, ltb, eqb}
use lib.ListN.{get_or}
use mir.Syntax.{w64}
use mir.Val.{SFits, to_z, of_z}
use mir.ValLaws.{to_z-of_z}
use Rattle.std.proofs.lemmas.Int.{ints}
use borrow.Author.Tests.{eq-eqb, ne_eqb, eqb-true, eqb-false, lt-ltb, le-ltb, le-leb, lt-leb}
use Rattle.syntax.specs.Grammar.{Op, eq, ne, lt, le, gt, ge}
use Rattle.text.specs.Words.{name_of}
use Rattle.model.specs.Queries.{column, self, col, same_col, figure}
use Rattle.model.specs.Meaning.{value, term_value, compares, compare_holds}
use Rattle.nodes.specs.declared.Node.{Node}
use Rattle.nodes.specs.Nodes.{node_of, no_node, value_at, node_at, unbiased, coded_term, numbered_op, node_compare}
use Rattle.nodes.proofs.Words.{value_zero}
use Rattle.figures.specs.declared.Answer.{Answer}
use Rattle.figures.specs.Figures.{row_of, coded_value, tested, Standing}

-- ---- words

pub word_front : (ws : List ℕ) (k : ℕ) {r : ℕ} → k < 2 → r ≡ get_or ws 0 0 → r ≡ get_or ws (k - 2) 0
word_front ws k h e = let z : k - 2 ≡ 0 = omega arith in rw z e

-- ---- terms

module _ (a : Answer) (code v : ℕ) where
  pub term_time : code ≡ 24 → pos a.end ≡ coded_value a code v
  unfolding coded_value coded_term term_value
  term_time e = rw e

  pub term_figure : code ≡ 25 → a.figure ≡ coded_value a code v
  unfolding coded_value coded_term term_value value same_col
  term_figure e = rw e

  pub term_number : code ≡ 26 → unbiased v ≡ coded_value a code v
  unfolding coded_value coded_term term_value
  term_number e = rw e

  pub term_other : (code ≡ 24 → ⊥) → (code ≡ 25 → ⊥) → (code ≡ 26 → ⊥) → pos 0 ≡ coded_value a code v
  unfolding coded_value coded_term term_value value same_col
  term_other h k l = rw (ne_eqb code 24 h, ne_eqb code 25 k, ne_eqb code 26 l) (go (ltb code 24))
    where
      go : (b : Bool) → pos 0 ≡ term_value (figure ∷ []) (row_of a) (cond b (column (col (code / 6) (code % 6))) (self (name_of v)))
      go true = refl
      go false = refl

-- ---- a number of 32 bits, the lowest as 0

pub number_sub : (v : ℕ) → pos v -ℤ pos 2147483648 ≡ unbiased v
unfolding unbiased
number_sub v = go (dec_lt v 2147483648)
  where
    go : Dec (v < 2147483648) → pos v -ℤ pos 2147483648 ≡ cond (leb 2147483648 v) (pos (v - 2147483648)) (negsuc (2147483647 - v))
    go (yes l) = let e : 2147483648 - suc v ≡ 2147483647 - v = omega arith in rw (lt-leb 2147483648 v l, lt-ltb v 2147483648 l, e)
    go (no l) = rw (le-leb 2147483648 v (omega arith), le-ltb v 2147483648 (omega arith))

pub number_fits : (v : ℕ) → v < 4294967296 → SFits w64 (unbiased v)
unfolding unbiased
number_fits v h = go (leb 2147483648 v)
  where
    go : (b : Bool) → SFits w64 (cond b (pos (v - 2147483648)) (negsuc (2147483647 - v)))
    go true = record { sfits = omega arith }
    go false = record { sfits = omega arith }

-- ---- operators

le_self : (x : ℤ) → true ≡ (le_z x x && le_z x x)
le_self x = grind (arith, ints)

le_apart : (x y : ℤ) → (x ≡ y → ⊥) → false ≡ (le_z x y && le_z y x)
le_apart x y h = grind (arith, ints)

-- the machine's test for equal
equal_test : (x y : ℤ) → SFits w64 x → SFits w64 y → eqb (of_z w64 x) (of_z w64 y) ≡ (le_z x y && le_z y x)
equal_test x y f g = go (eqb (of_z w64 x) (of_z w64 y)) refl
  where
    go : (b : Bool) → eqb (of_z w64 x) (of_z w64 y) ≡ b → b ≡ (le_z x y && le_z y x)
    go true e =
        let q : x ≡ y = sym (to_z-of_z w64 x f) ∙ ap (to_z w64) (eqb-true _ _ e) ∙ to_z-of_z w64 y g in
        rw q (le_self y)
    go false e = le_apart x y (λ q. eqb-false _ _ e (ap (of_z w64) q))

apart_test : (x y : ℤ) → not (le_z x y && le_z y x) ≡ (lt_z x y || lt_z y x)
apart_test x y = grind (arith, ints)

module _ (h : ℕ) (x y : ℤ) where
  pub op_lt : {r : Bool} → h ≡ 3 → r ≡ lt_z x y → r ≡ compares (numbered_op h) x y
  unfolding compares numbered_op
  op_lt e f = rw e f

  pub op_le : {r : Bool} → h ≡ 4 → r ≡ le_z x y → r ≡ compares (numbered_op h) x y
  unfolding compares numbered_op
  op_le e f = rw e f

  pub op_gt : {r : Bool} → h ≡ 5 → r ≡ lt_z y x → r ≡ compares (numbered_op h) x y
  unfolding compares numbered_op
  op_gt e f = rw e f

  module _ (f : SFits w64 x) (g : SFits w64 y) where
    pub op_eq : h ≡ 1 → eqb (of_z w64 x) (of_z w64 y) ≡ compares (numbered_op h) x y
    unfolding compares numbered_op
    op_eq e = rw e (equal_test x y f g)

    pub op_ne : h ≡ 2 → not (eqb (of_z w64 x) (of_z w64 y)) ≡ compares (numbered_op h) x y
    unfolding compares numbered_op
    op_ne e = rw e (ap not (equal_test x y f g) ∙ apart_test x y)

  pub op_ge : {r : Bool} → (h ≡ 1 → ⊥) → (h ≡ 2 → ⊥) → (h ≡ 3 → ⊥) → (h ≡ 4 → ⊥) → (h ≡ 5 → ⊥) → r ≡ le_z y x → r ≡ compares (numbered_op h) x y
  unfolding compares numbered_op
  op_ge a b c d e f = rw (ne_eqb h 1 a, ne_eqb h 2 b, ne_eqb h 3 c, ne_eqb h 4 d, ne_eqb h 5 e) f

pub ruleset op_ends = (op_lt, op_le, op_gt, op_eq, op_ne, op_ge, to_z-of_z)

-- ---- the number that stands for a node's value

tested_parts : (a : Answer) (n : Node) → tested a n ≡ compares (numbered_op n.head) (coded_value a n.left n.value) (coded_value a n.right n.value)
unfolding tested compare_holds node_compare coded_value
tested_parts a n = refl

-- the value of a comparison with a number, and of one with neither a number nor a profile entry
node_number : (ws : List ℕ) (k : ℕ) → (node_at ws k).right ≡ 26 → (node_at ws k).value ≡ get_or ws (k - 2) 0
unfolding node_at node_of value_at no_node
node_number ws k = go (eqb k 0)
  where
    go : (b : Bool) → (cond b no_node (node_of (get_or ws (k - 1) 0) (value_at ws k (get_or ws (k - 1) 0 / 65536 % 256)))).right ≡ 26
        → (cond b no_node (node_of (get_or ws (k - 1) 0) (value_at ws k (get_or ws (k - 1) 0 / 65536 % 256)))).value ≡ get_or ws (k - 2) 0
    go true e = absurd (omega arith)
    go false e = rw (eq-eqb (get_or ws (k - 1) 0 / 65536 % 256) 26 e)

-- whatever number it has, a profile entry is 0
entry_zero : (a : Answer) (code v : ℕ) → code ≡ 27 → coded_value a code v ≡ pos 0
entry_zero a code v e = sym (term_other a code v (λ h. omega arith) (λ h. omega arith) (λ h. omega arith))

-- beside it only the sign of a number counts
large : (op : Op) (n m : ℕ) → compares op (pos (suc n)) (pos 0) ≡ compares op (pos (suc m)) (pos 0)
unfolding compares
large op n m =
    let a = lt-leb (suc n) 0 (omega arith) in
    let b = lt-leb (suc m) 0 (omega arith) in
    let c = le-leb 0 (suc n) (omega arith) in
    let d = le-leb 0 (suc m) (omega arith) in
    let e = le-ltb (suc n) 0 (omega arith) in
    let f = le-ltb (suc m) 0 (omega arith) in
    let g = lt-ltb 0 (suc n) (omega arith) in
    let h = lt-ltb 0 (suc m) (omega arith) in
    go op a b c d e f g h
  where
    go : (op : Op) → leb (suc n) 0 ≡ false → leb (suc m) 0 ≡ false → leb 0 (suc n) ≡ true → leb 0 (suc m) ≡ true → ltb (suc n) 0 ≡ false → ltb (suc m) 0 ≡ false → ltb 0 (suc n) ≡ true → ltb 0 (suc m) ≡ true
        → compares op (pos (suc n)) (pos 0) ≡ compares op (pos (suc m)) (pos 0)
    go eq a b c d e f g h = rw (a, b)
    go ne a b c d e f g h = rw (e, f, g, h)
    go lt a b c d e f g h = rw (e, f)
    go le a b c d e f g h = rw (a, b)
    go gt a b c d e f g h = rw (g, h)
    go ge a b c d e f g h = rw (c, d)

large_number : (op : Op) (v : ℕ) → 4294967296 ≤ v → compares op (unbiased v) (pos 0) ≡ compares op (unbiased 4294967295) (pos 0)
unfolding unbiased
large_number op v h =
    let e : v - 2147483648 ≡ suc (v - 2147483649) = omega arith in
    rw (le-leb 2147483648 v (omega arith), e) (large op (v - 2147483649) 2147483646)

large_term : (a : Answer) (op : Op) (code v : ℕ) → 4294967296 ≤ v → compares op (coded_value a code v) (pos 0) ≡ compares op (coded_value a code 4294967295) (pos 0)
large_term a op code v h = go (eqb code 24) refl (eqb code 25) refl (eqb code 26) refl
  where
    go : (x : Bool) → eqb code 24 ≡ x → (y : Bool) → eqb code 25 ≡ y → (z : Bool) → eqb code 26 ≡ z → compares op (coded_value a code v) (pos 0) ≡ compares op (coded_value a code 4294967295) (pos 0)
    go true e y f z g = let q = eqb-true code 24 e in ap (λ t. compares op t (pos 0)) (sym (term_time a code v q) ∙ term_time a code 4294967295 q)
    go false e true f z g = let q = eqb-true code 25 f in ap (λ t. compares op t (pos 0)) (sym (term_figure a code v q) ∙ term_figure a code 4294967295 q)
    go false e false f true g =
        let q = eqb-true code 26 g in
        ap (λ t. compares op t (pos 0)) (sym (term_number a code v q)) ∙ large_number op v h ∙ ap (λ t. compares op t (pos 0)) (term_number a code 4294967295 q)
    go false e false f false g =
        let x = eqb-false code 24 e in
        let y = eqb-false code 25 f in
        let z = eqb-false code 26 g in
        ap (λ t. compares op t (pos 0)) (sym (term_other a code v x y z) ∙ term_other a code 4294967295 x y z)

module _ (ws : List ℕ) (k : ℕ) {n : Node} (e : n ≡ node_at ws k) where
  standing_same : {v : ℕ} → v ≡ n.value → Standing n v
  standing_same f = record { same = λ a. rw f (tested_parts a n) }

  pub standing_number : {v : ℕ} → n.right ≡ 26 → v ≡ get_or ws (k - 2) 0 → Standing n v
  standing_number h f =
      let q : (node_at ws k).right ≡ 26 = ap (λ (m : Node). m.right) (sym e) ∙ h in
      standing_same (f ∙ sym (node_number ws k q) ∙ ap (λ (m : Node). m.value) (sym e))

  pub standing_plain : (n.right ≡ 26 → ⊥) → (n.right ≡ 27 → ⊥) → Standing n 0
  standing_plain h i =
      standing_same (sym (value_zero ws k (λ q. h (ap (λ (m : Node). m.right) e ∙ q)) (λ q. i (ap (λ (m : Node). m.right) e ∙ q))) ∙ ap (λ (m : Node). m.value) (sym e))

  pub standing_small : n.value < 4294967296 → Standing n n.value
  standing_small h = standing_same refl

  pub standing_large : n.right ≡ 27 → 4294967296 ≤ n.value → Standing n 4294967295
  standing_large h i =
      record {
        same = λ a.
            tested_parts a n
            ∙ ap (compares (numbered_op n.head) (coded_value a n.left n.value)) (entry_zero a n.right n.value h)
            ∙ large_term a (numbered_op n.head) n.left n.value i
            ∙ ap (compares (numbered_op n.head) (coded_value a n.left 4294967295)) (sym (entry_zero a n.right 4294967295 h));
      }

pub ruleset standing_ends = (standing_number, standing_plain, standing_small, standing_large)

-- ---- a comparison as a whole

pub test_made : (a : Answer) (n : Node) {v : ℕ} {x y : ℤ} {r : Bool} → Standing n v → x ≡ coded_value a n.left v → y ≡ coded_value a n.right v → r ≡ compares (numbered_op n.head) x y → r ≡ tested a n
test_made a n s f g h = h ∙ ap₂ (compares (numbered_op n.head)) f g ∙ sym (s.same a)
