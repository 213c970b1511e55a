-- The profile entries of a list, kept by name, and whether a column was seen before.
use mathlib.Core.Path.{◌≡◌, refl, ap₂, ◌∙◌}
use mathlib.Core.List.{List, [], ◌∷◌, ◌++◌}
use mathlib.Core.Bool.{Bool, true, ◌||◌}
use Prim.Native.Nat.{ℕ, ◌+◌, ◌≤◌, ◌<◌}
use native.Mathlib.Omega.{arith}
use native.Mathlib.Numerals.{add-one}
use lib.Dec.{eqb}
use lib.ListN.{length, take, set, length-take, length-set}
use lib.Seq.{take-suc, take-set-le, get_or-set_same}
use borrow.Author.Tests.{eq-eqb, ne_eqb, le-leb, lt-leb, lt-ltb, le-ltb}
use Rattle.std.specs.List.{list_any}
use Rattle.lists.specs.Lists.{some?}
use Rattle.masks.specs.Masks.{bit?}
use Rattle.columns.specs.Columns.{again_in, kept_in}
use Rattle.columns.proofs.Closing.{eqb_sym}

-- ---- a number among some

any_named : (x : ℕ) (xs : List ℕ) → list_any (λ y. eqb y x) xs ≡ some? (eqb x) xs
unfolding some?
any_named x [] = refl
any_named x (y ∷ ys) = ap₂ ◌||◌ (eqb_sym y x) (any_named x ys)

-- ---- whether a column was seen

module _ (mask k code second : ℕ) (xs : List ℕ) where
  pub again_column : {x : Bool} → (code ≡ 27 → ⊥) → x ≡ bit? mask code → x ≡ again_in mask (take k xs) code second
  unfolding again_in
  again_column f e = rw (ne_eqb code 27 f) e

  module _ (e : code ≡ 27) (l : length xs ≡ 72) where
    pub again_full : 72 ≤ k → true ≡ again_in mask (take k xs) code second
    unfolding again_in
    again_full h = rw (eq-eqb code 27 e, le-leb 72 (length (take k xs)) (let m = length-take k xs in omega arith))

    pub again_named : {x : Bool} → k < 72 → x ≡ list_any (λ y. eqb y second) (take k xs) → x ≡ again_in mask (take k xs) code second
    unfolding again_in
    again_named h f = rw (eq-eqb code 27 e, lt-leb 72 (length (take k xs)) (let m = length-take k xs in omega arith)) (f ∙ any_named second (take k xs))

pub ruleset again_ends = (again_column, again_full, again_named)

-- ---- one name more

take_more : (xs : List ℕ) (k x : ℕ) → k < length xs → take (k + 1) (set xs k x) ≡ take k xs ++ (x ∷ [])
take_more xs k x h = rw (add-one k, take-suc (set xs k x) k 0 (let l = length-set xs k x in omega arith), take-set-le k xs k x (omega arith), get_or-set_same xs k x 0 h)

module _ (k code second : ℕ) (xs : List ℕ) where
  pub keep_column : (code ≡ 27 → ⊥) → take k xs ≡ kept_in (take k xs) code second
  unfolding kept_in
  keep_column f = rw (ne_eqb code 27 f)

  module _ (e : code ≡ 27) (l : length xs ≡ 72) where
    pub keep_full : 72 ≤ k → take k xs ≡ kept_in (take k xs) code second
    unfolding kept_in
    keep_full h = rw (eq-eqb code 27 e, le-ltb (length (take k xs)) 72 (let m = length-take k xs in omega arith))

    pub keep_room : k < 72 → take (k + 1) (set xs k second) ≡ kept_in (take k xs) code second
    unfolding kept_in
    keep_room h = rw (eq-eqb code 27 e, lt-ltb (length (take k xs)) 72 (let m = length-take k xs in omega arith)) (take_more xs k second (omega arith))

pub ruleset keep_ends = (keep_column, keep_full, keep_room)
