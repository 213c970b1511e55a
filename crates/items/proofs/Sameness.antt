-- Whether a number stands again, as the code looks for it.
use mathlib.Core.Path.{◌≡◌, refl, sym, ap, ap₂, ◌∙◌}
use mathlib.Core.List.{List, [], ◌∷◌}
use mathlib.Core.Bool.{Bool, true, false, ◌||◌, ◌&&◌, not}
use Prim.Native.Nat.{ℕ, ◌+◌, ◌-◌, ◌≤◌, ◌<◌, min}
use native.Mathlib.Omega.{arith}
use native.Mathlib.Numerals.{add-one}
use lib.Dec.{eqb}
use lib.ListN.{length, take, drop, get_or, length-drop, drop_of_length-le}
use lib.Seq.{drop-cons, take_all}
use borrow.Author.Tests.{eq-eqb, ne_eqb, eqb-true, eqb-false}
use Rattle.std.specs.List.{list_any}
use Rattle.std.proofs.lemmas.List.{take_min}
use Rattle.lists.specs.Lists.{some?, distinct}
use Rattle.items.specs.Items.{once}

eqb_swap : (x y : ℕ) → eqb y x ≡ eqb x y
eqb_swap x y = go (eqb x y) refl
  where
    go : (b : Bool) → eqb x y ≡ b → eqb y x ≡ b
    go true e = eq-eqb y x (sym (eqb-true x y e))
    go false e = ne_eqb y x (λ d. eqb-false x y e (sym d))

stands_is : (x : ℕ) (ys : List ℕ) → list_any (λ y. eqb y x) ys ≡ some? (eqb x) ys
unfolding some?
stands_is x [] = refl
stands_is x (y ∷ ys) = ap₂ ◌||◌ (eqb_swap x y) (stands_is x ys)

module _ (xs : List ℕ) (i : ℕ) (inv : distinct eqb xs ≡ distinct eqb (drop i xs)) where
  pub distinct_over : length xs ≤ i → true ≡ distinct eqb xs
  unfolding distinct
  distinct_over h = sym (inv ∙ rw (drop_of_length-le xs h))

  module _ (h : i < length xs) {a : Bool} (e : a ≡ list_any (λ y. eqb y (get_or xs i 0)) (take (length xs - (i + 1)) (drop (i + 1) xs))) where
    here : distinct eqb xs ≡ (not a && distinct eqb (drop (i + 1) xs))
    unfolding distinct
    here =
        let l : length (drop (i + 1) xs) ≤ length xs - (i + 1) = omega (arith, length-drop (i + 1) xs) in
        let k = e ∙ ap (list_any (λ y. eqb y (get_or xs i 0))) (take_all (length xs - (i + 1)) (drop (i + 1) xs) l) ∙ stands_is (get_or xs i 0) (drop (i + 1) xs) in
        let m = rw (add-one i) at k in
        inv ∙ rw (drop-cons xs i 0 h, add-one i, sym m)

    pub distinct_twice : a ≡ true → false ≡ distinct eqb xs
    distinct_twice t = sym (here ∙ rw t)

    pub distinct_more : a ≡ false → distinct eqb xs ≡ distinct eqb (drop (i + 1) xs)
    distinct_more t = here ∙ rw t

-- of a count above all only as many are taken
pub first_few : (xs : List ℕ) (n : ℕ) {m k : ℕ} → length xs ≡ k → m ≡ min n k → take m xs ≡ take n xs
first_few xs n l e = ap (λ m. take m xs) (e ∙ ap (min n) (sym l)) ∙ take_min n xs

pub once_is : (xs : List ℕ) (n : ℕ) {m k : ℕ} {r : Bool} → length xs ≡ k → m ≡ min n k → r ≡ distinct eqb (take m xs) → r ≡ once xs n
unfolding once
once_is xs n l e d = d ∙ ap (distinct eqb) (first_few xs n l e)
