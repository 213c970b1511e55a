-- Lists by what stands at their first places.
use mathlib.Core.Path.{◌≡◌, refl, sym, ap, ◌∙◌}
use mathlib.Core.List.{List, [], ◌∷◌, map, map-map, map-id}
use Prim.Native.Nat.{ℕ, zero, suc, ◌≤◌, ◌<◌}
use native.Mathlib.Omega.{arith}
use lib.ListN.{length, take, get_or, length-map}
use lib.Seq.{length-take-le, get_or-take}
use Rattle.lists.specs.Lists.{All, count_from}
use Rattle.lists.proofs.Laws.{map_same}
use Rattle.lists.proofs.Counting.{map_alike, map_places}
use Rattle.items.specs.Items.{first_of}
use Rattle.items.proofs.NameCodes.{first_taken}

module _ {A : Type 0} (d : A) where
  -- the first k
  pub the_first : (xs : List A) (k : ℕ) → k ≤ length xs → map (λ i. get_or xs i d) (count_from 0 k) ≡ take k xs
  the_first xs k h =
      map_alike (λ i. get_or xs i d) (λ i. get_or (take k xs) i d) 0 k (λ i _ b. sym (get_or-take k xs i d (omega arith)))
      ∙ ap (λ n. map (λ i. get_or (take k xs) i d) (count_from 0 n)) (sym (length-take-le k xs h)) ∙ map_places d (take k xs)

  -- what a function makes of each of them
  pub by_places : {B : Type 0} (f : A → B) (xs : List A) (k : ℕ) → k ≤ length xs → map (λ i. f (get_or xs i d)) (count_from 0 k) ≡ map f (take k xs)
  by_places f xs k h = sym (map-map f (λ i. get_or xs i d) (count_from 0 k)) ∙ ap (map f) (the_first xs k h)

  -- a list is had again where what is made of each item at its place is that item
  pub read_back : (g : ℕ → A) (k : A → A) (xs : List A) → ((i : ℕ) → i < length xs → g i ≡ k (get_or xs i d)) → All (λ x. k x ≡ x) xs → map g (count_from 0 (length xs)) ≡ xs
  read_back g k xs e h =
      map_alike g (λ i. k (get_or xs i d)) 0 (length xs) (λ i _ b. e i (omega arith))
      ∙ sym (map-map k (λ i. get_or xs i d) (count_from 0 (length xs))) ∙ ap (map k) (map_places d xs) ∙ map_same k (λ x. x) h ∙ map-id xs

module _ {A B : Type 0} (f : A → B) (d : A) (e : B) where
  at_map : (xs : List A) (i : ℕ) → i < length xs → get_or (map f xs) i e ≡ f (get_or xs i d)
  at_map [] i h = absurd (omega arith)
  at_map (x ∷ xs) zero h = refl
  at_map (x ∷ xs) (suc i) h = at_map xs i (omega arith)

  -- what is kept of each of at most n items, with a filler past the last
  pub kept_at : (n : ℕ) (xs : List A) → length xs ≤ n → (i : ℕ) → i < length xs → get_or (first_of n e (map f xs)) i e ≡ f (get_or xs i d)
  kept_at n xs l i h =
      let m = length-map xs f in
      sym (get_or-take (length (map f xs)) (first_of n e (map f xs)) i e (omega arith)) ∙ ap (λ ys. get_or ys i e) (first_taken n e (map f xs) (omega arith)) ∙ at_map xs i h
