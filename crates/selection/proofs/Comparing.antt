-- The six comparisons by two: the same, and below; and of two values once for all rows.
use mathlib.Core.Path.{◌≡◌, refl, sym, ap, ap₂, ◌∙◌}
use mathlib.Core.Bool.{Bool, true, false, ◌&&◌, ◌||◌, not, and_comm, or_comm}
use Prim.Native.Nat.{ℕ, ◌<◌}
use native.Mathlib.Decide.{dec_lt}
use native.Mathlib.Omega.{arith}
use lib.IntN.{ℤ, pos, negsuc}
use lib.Dec.{leb, ltb, eqb}
use lib.Signed.{lt_z, le_z}
use mir.Syntax.{w32}
use mir.Val.{of_z, to_z, SFits}
use mir.ValLaws.{to_z-of_z}
use borrow.Author.Tests.{ne_eqb, lt-ltb, le-ltb, le-leb, lt-leb}
use Rattle.syntax.specs.Grammar.{eq, lt, le, ge}
use Rattle.model.specs.Meaning.{compares}
use Rattle.nodes.specs.Nodes.{numbered_op}
use Rattle.rows.specs.declared.Rows.{Rows}
use Rattle.rows.specs.Masks.{rows_of, no_rows, first_rows, flip_of}
use Rattle.column_masks.specs.Columns.{compared_at}
use Rattle.selection.specs.Evaluating.{relate}
use Rattle.rows.proofs.Masks.{rows_alike, rows_flip, rows_none}
use Rattle.column_masks.proofs.Columns.{same_test, less_test}

leb_not : (a b : ℕ) → leb a b ≡ not (ltb b a)
leb_not a b = go (dec_lt b a)
  where
    go : Dec (b < a) → leb a b ≡ not (ltb b a)
    go (yes h) = lt-leb a b h ∙ sym (ap not (lt-ltb b a h))
    go (no h) = le-leb a b (omega arith) ∙ sym (ap not (le-ltb b a (omega arith)))

pub le_not : (x y : ℤ) → le_z x y ≡ not (lt_z y x)
le_not (pos a) (pos b) = leb_not a b
le_not (pos a) (negsuc b) = refl
le_not (negsuc a) (pos b) = refl
le_not (negsuc a) (negsuc b) = leb_not b a

not_and : (a b : Bool) → (b || a) ≡ not (not a && not b)
not_and true true = refl
not_and true false = refl
not_and false true = refl
not_and false false = refl

not_not : (a : Bool) → not (not a) ≡ a
not_not true = refl
not_not false = refl

ne_not : (x y : ℤ) → (lt_z x y || lt_z y x) ≡ not (le_z x y && le_z y x)
ne_not x y = not_and (lt_z y x) (lt_z x y) ∙ sym (ap not (ap₂ ◌&&◌ (le_not x y) (le_not y x)))

module _ (head : ℕ) (f g : ℕ → ℤ) (from n : ℕ) where
  denied : (q : ℕ → Bool) → ((i : ℕ) → not (q i) ≡ relate head f g i) → {x y z : Rows} → x ≡ first_rows n → y ≡ rows_of q from n → z ≡ flip_of x y → z ≡ rows_of (relate head f g) from n
  denied q k ex ey ez = ez ∙ ap₂ flip_of ex ey ∙ rows_flip q from n ∙ rows_alike (λ i. not (q i)) (relate head f g) from n (λ i a b. k i)

  pub compared_eq : {x : Rows} → head ≡ 1 → x ≡ rows_of (compared_at eq f g) from n → x ≡ rows_of (relate head f g) from n
  unfolding numbered_op
  compared_eq e h = rw e h

  pub compared_lt : {x : Rows} → head ≡ 3 → x ≡ rows_of (compared_at lt f g) from n → x ≡ rows_of (relate head f g) from n
  unfolding numbered_op
  compared_lt e h = rw e h

  pub compared_gt : {x : Rows} → head ≡ 5 → x ≡ rows_of (compared_at lt g f) from n → x ≡ rows_of (relate head f g) from n
  unfolding numbered_op compared_at compares
  compared_gt e h = rw e h

  module _ {x y z : Rows} (ex : x ≡ first_rows n) where
    pub compared_ne : head ≡ 2 → y ≡ rows_of (compared_at eq f g) from n → z ≡ flip_of x y → z ≡ rows_of (relate head f g) from n
    unfolding numbered_op compared_at compares
    compared_ne e = denied (compared_at eq f g) (λ i. rw e (sym (ne_not (f i) (g i)))) ex

    pub compared_le : head ≡ 4 → y ≡ rows_of (compared_at lt g f) from n → z ≡ flip_of x y → z ≡ rows_of (relate head f g) from n
    unfolding numbered_op compared_at compares
    compared_le e = denied (compared_at lt g f) (λ i. rw e (sym (le_not (f i) (g i)))) ex

    pub compared_ge : (head ≡ 1 → ⊥) → (head ≡ 2 → ⊥) → (head ≡ 3 → ⊥) → (head ≡ 4 → ⊥) → (head ≡ 5 → ⊥) → y ≡ rows_of (compared_at lt f g) from n → z ≡ flip_of x y → z ≡ rows_of (relate head f g) from n
    unfolding numbered_op compared_at compares
    compared_ge a b c d e =
        denied (compared_at lt f g) (λ i. rw (ne_eqb head 1 a, ne_eqb head 2 b, ne_eqb head 3 c, ne_eqb head 4 d, ne_eqb head 5 e) (sym (le_not (g i) (f i)))) ex

  -- by another two: not below, and not above
  pub direct_le : {x : Rows} → head ≡ 4 → x ≡ rows_of (compared_at le f g) from n → x ≡ rows_of (relate head f g) from n
  unfolding numbered_op
  direct_le e h = rw e h

  pub direct_ge : {x : Rows} → (head ≡ 1 → ⊥) → (head ≡ 2 → ⊥) → (head ≡ 3 → ⊥) → (head ≡ 4 → ⊥) → (head ≡ 5 → ⊥) → x ≡ rows_of (compared_at ge f g) from n → x ≡ rows_of (relate head f g) from n
  unfolding numbered_op
  direct_ge a b c d e h = rw (ne_eqb head 1 a, ne_eqb head 2 b, ne_eqb head 3 c, ne_eqb head 4 d, ne_eqb head 5 e) h

  module _ {x y z : Rows} (ex : x ≡ first_rows n) where
    pub denied_lt : head ≡ 3 → y ≡ rows_of (compared_at ge f g) from n → z ≡ flip_of x y → z ≡ rows_of (relate head f g) from n
    unfolding numbered_op compared_at compares
    denied_lt e = denied (compared_at ge f g) (λ i. rw e (ap not (le_not (g i) (f i)) ∙ not_not (lt_z (f i) (g i)))) ex

    pub denied_gt : head ≡ 5 → y ≡ rows_of (compared_at le f g) from n → z ≡ flip_of x y → z ≡ rows_of (relate head f g) from n
    unfolding numbered_op compared_at compares
    denied_gt e = denied (compared_at le f g) (λ i. rw e (ap not (le_not (f i) (g i)) ∙ not_not (lt_z (g i) (f i)))) ex

-- ---- turned

module _ (head : ℕ) where
  -- a head that says the same of two numbers the other way round
  abbrev pub Turned : ℕ → Type 0
  Turned r = (x y : ℤ) → compares (numbered_op r) x y ≡ compares (numbered_op head) y x

  pub turned_eq : head ≡ 1 → Turned 1
  unfolding numbered_op compares
  turned_eq e x y = rw e (and_comm (le_z x y) (le_z y x))

  pub turned_ne : head ≡ 2 → Turned 2
  unfolding numbered_op compares
  turned_ne e x y = rw e (or_comm (lt_z x y) (lt_z y x))

  pub turned_lt : head ≡ 3 → Turned 5
  unfolding numbered_op compares
  turned_lt e x y = rw e

  pub turned_le : head ≡ 4 → Turned 6
  unfolding numbered_op compares
  turned_le e x y = rw e

  pub turned_gt : head ≡ 5 → Turned 3
  unfolding numbered_op compares
  turned_gt e x y = rw e

  pub turned_ge : (head ≡ 1 → ⊥) → (head ≡ 2 → ⊥) → (head ≡ 3 → ⊥) → (head ≡ 4 → ⊥) → (head ≡ 5 → ⊥) → Turned 4
  unfolding numbered_op compares
  turned_ge a b c d e x y = rw (ne_eqb head 1 a, ne_eqb head 2 b, ne_eqb head 3 c, ne_eqb head 4 d, ne_eqb head 5 e)

pub ruleset turned_ends = (turned_eq, turned_ne, turned_lt, turned_le, turned_gt, turned_ge)

-- ---- two values

module _ (head : ℕ) (x y : ℤ) (fx : SFits w32 x) (fy : SFits w32 y) where
  pub holds_eq : head ≡ 1 → eqb (of_z w32 x) (of_z w32 y) ≡ compares (numbered_op head) x y
  unfolding numbered_op
  holds_eq e = rw e (same_test x y fx fy refl refl)

  pub holds_ne : head ≡ 2 → not (eqb (of_z w32 x) (of_z w32 y)) ≡ compares (numbered_op head) x y
  unfolding numbered_op compares
  holds_ne e = rw e (ap not (same_test x y fx fy refl refl) ∙ sym (ne_not x y))

  pub holds_lt : head ≡ 3 → lt_z (to_z w32 (of_z w32 x)) (to_z w32 (of_z w32 y)) ≡ compares (numbered_op head) x y
  unfolding numbered_op
  holds_lt e = rw e (less_test x y fx fy refl refl)

  pub holds_le : head ≡ 4 → le_z (to_z w32 (of_z w32 x)) (to_z w32 (of_z w32 y)) ≡ compares (numbered_op head) x y
  unfolding numbered_op compares
  holds_le e = rw e (ap₂ le_z (to_z-of_z w32 x fx) (to_z-of_z w32 y fy))

  pub holds_gt : head ≡ 5 → lt_z (to_z w32 (of_z w32 y)) (to_z w32 (of_z w32 x)) ≡ compares (numbered_op head) x y
  unfolding numbered_op compares
  holds_gt e = rw e (less_test y x fy fx refl refl)

  pub holds_ge : (head ≡ 1 → ⊥) → (head ≡ 2 → ⊥) → (head ≡ 3 → ⊥) → (head ≡ 4 → ⊥) → (head ≡ 5 → ⊥) → le_z (to_z w32 (of_z w32 y)) (to_z w32 (of_z w32 x)) ≡ compares (numbered_op head) x y
  unfolding numbered_op compares
  holds_ge a b c d e = rw (ne_eqb head 1 a, ne_eqb head 2 b, ne_eqb head 3 c, ne_eqb head 4 d, ne_eqb head 5 e) (ap₂ le_z (to_z-of_z w32 y fy) (to_z-of_z w32 x fx))

pub ruleset holds_ends = (holds_eq, holds_ne, holds_lt, holds_le, holds_gt, holds_ge)

-- and the rows by them
module _ (head : ℕ) (x y : ℤ) (n : ℕ) {b : Bool} (e : b ≡ compares (numbered_op head) x y) {z : Rows} where
  pub settled_all : b ≡ true → z ≡ first_rows n → z ≡ rows_of (relate head (λ i. x) (λ i. y)) 0 n
  unfolding compared_at first_rows
  settled_all h f = f ∙ rows_alike (λ i. true) (relate head (λ i. x) (λ i. y)) 0 n (λ i k l. sym (sym e ∙ h))

  pub settled_none : b ≡ false → z ≡ no_rows → z ≡ rows_of (relate head (λ i. x) (λ i. y)) 0 n
  unfolding compared_at
  settled_none h f = f ∙ rows_none 0 n ∙ rows_alike (λ i. false) (relate head (λ i. x) (λ i. y)) 0 n (λ i k l. sym (sym e ∙ h))
