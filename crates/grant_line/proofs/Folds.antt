-- Tests of lists as equations.
use mathlib.Core.Path.{◌≡◌, refl, sym, ap, ap₂, ◌∙◌}
use mathlib.Core.List.{List, [], ◌∷◌}
use mathlib.Core.Bool.{Bool, true, false, ◌&&◌, ◌||◌, not}
use lib.Dec.{T}
use Rattle.lists.specs.Lists.{every, some?, gather}
use Rattle.lists.proofs.Laws.{and_l, and_r, and_four, not_both}
use Rattle.lists.proofs.Gathers.{every_append_same}

pub not_not_is : (a : Bool) → a ≡ not (not a)
not_not_is true = refl
not_not_is false = refl

pub flip : (a b : Bool) → not a ≡ b → a ≡ not b
flip a b e = not_not_is a ∙ ap not e

module _ {A : Type 0} where
  pub every_pair : (p q : A → Bool) (xs : List A) → (every p xs && every q xs) ≡ every (λ x. p x && q x) xs
  unfolding every
  every_pair p q [] = refl
  every_pair p q (x ∷ xs) = and_four (p x) (every p xs) (q x) (every q xs) ∙ ap (λ b. (p x && q x) && b) (every_pair p q xs)

  pub some_not : (p q : A → Bool) → ((x : A) → p x ≡ not (q x)) → (xs : List A) → some? p xs ≡ not (every q xs)
  unfolding some? every
  some_not p q f [] = refl
  some_not p q f (x ∷ xs) = ap₂ ◌||◌ (f x) (some_not p q f xs) ∙ not_both (q x) (every q xs)

  pub some_good : (p q good : A → Bool) → ((x : A) → T (good x) → p x ≡ not (q x)) → (xs : List A) → T (every good xs) → some? p xs ≡ not (every q xs)
  unfolding some? every
  some_good p q good f [] t = refl
  some_good p q good f (x ∷ xs) t = ap₂ ◌||◌ (f x (and_l (good x) (every good xs) t)) (some_good p q good f xs (and_r (good x) (every good xs) t)) ∙ not_both (q x) (every q xs)

-- a test of each item by tests of what it gives
pub every_gathered : {A B : Type 0} (p : B → Bool) (q : A → Bool) (f : A → List B) → ((x : A) → q x ≡ every p (f x)) → (xs : List A) → every q xs ≡ every p (gather f xs)
unfolding every gather
every_gathered p q f h [] = refl
every_gathered p q f h (x ∷ xs) = ap₂ ◌&&◌ (h x) (every_gathered p q f h xs) ∙ sym (every_append_same p (f x) (gather f xs))

pub gather_gather : {A B C : Type 0} (p : C → Bool) (f : A → List B) (g : B → List C) (xs : List A) → every p (gather (λ x. gather g (f x)) xs) ≡ every (λ y. every p (g y)) (gather f xs)
unfolding gather every
gather_gather p f g [] = refl
gather_gather p f g (x ∷ xs) =
    every_append_same p (gather g (f x)) (gather (λ x. gather g (f x)) xs) ∙ ap₂ ◌&&◌ (sym (every_gathered p (λ y. every p (g y)) g (λ y. refl) (f x))) (gather_gather p f g xs)
    ∙ sym (every_append_same (λ y. every p (g y)) (f x) (gather f xs))
