-- Laws of selected and gathered lists, and of tests over them.
use mathlib.Core.Path.{◌≡◌, refl, ap, ap₂, ◌∙◌}
use mathlib.Core.List.{List, [], ◌∷◌, ◌++◌, map, map-append}
use mathlib.Core.Bool.{Bool, true, false, ◌&&◌, ◌||◌, cond}
use Prim.Native.Nat.{suc, ◌≤◌}
use native.Mathlib.Omega.{arith}
use lib.ListN.{length}
use lib.Dec.{T}
use Rattle.lists.specs.Lists.{select, every, some?, gather}
use Rattle.lists.proofs.Laws.{gather_append, and_l, and_r}

module _ {A : Type 0} where
  pub select_append : (p : A → Bool) (xs ys : List A) → select p (xs ++ ys) ≡ select p xs ++ select p ys
  unfolding select
  select_append p [] ys = refl
  select_append p (x ∷ xs) ys = go (p x) (select_append p xs ys)
    where
      go : (b : Bool) → select p (xs ++ ys) ≡ select p xs ++ select p ys → cond b (x ∷ select p (xs ++ ys)) (select p (xs ++ ys)) ≡ cond b (x ∷ select p xs) (select p xs) ++ select p ys
      go true e = ap (λ l. x ∷ l) e
      go false e = e

  -- no more than there were
  pub select_fewer : (p : A → Bool) (xs : List A) → length (select p xs) ≤ length xs
  unfolding select
  select_fewer p [] = omega arith
  select_fewer p (x ∷ xs) = go (p x) (select_fewer p xs)
    where
      go : (b : Bool) → length (select p xs) ≤ length xs → length (cond b (x ∷ select p xs) (select p xs)) ≤ suc (length xs)
      go true h = omega arith
      go false h = omega arith

  -- two tests that agree
  pub select_alike : (p q : A → Bool) → ((x : A) → p x ≡ q x) → (xs : List A) → select p xs ≡ select q xs
  unfolding select
  select_alike p q f [] = refl
  select_alike p q f (x ∷ xs) = rw (f x, select_alike p q f xs)

  pub every_append_same : (p : A → Bool) (xs ys : List A) → every p (xs ++ ys) ≡ every p xs && every p ys
  unfolding every
  every_append_same p [] ys = refl
  every_append_same p (x ∷ xs) ys = go (p x) (every_append_same p xs ys)
    where
      go : (b : Bool) → every p (xs ++ ys) ≡ every p xs && every p ys → b && every p (xs ++ ys) ≡ b && every p xs && every p ys
      go true e = e
      go false e = refl

  pub some_append : (p : A → Bool) (xs ys : List A) → some? p (xs ++ ys) ≡ (some? p xs || some? p ys)
  unfolding some?
  some_append p [] ys = refl
  some_append p (x ∷ xs) ys = go (p x) (some_append p xs ys)
    where
      go : (b : Bool) → some? p (xs ++ ys) ≡ (some? p xs || some? p ys) → (b || some? p (xs ++ ys)) ≡ ((b || some? p xs) || some? p ys)
      go true e = refl
      go false e = e

  pub select_none : (xs : List A) → select (λ x. false) xs ≡ []
  unfolding select
  select_none [] = refl
  select_none (x ∷ xs) = select_none xs

  -- tests that agree on what is good
  pub every_good : (p q good : A → Bool) → ((x : A) → T (good x) → p x ≡ q x) → (xs : List A) → T (every good xs) → every p xs ≡ every q xs
  unfolding every
  every_good p q good f [] t = refl
  every_good p q good f (x ∷ xs) t = ap₂ ◌&&◌ (f x (and_l (good x) (every good xs) t)) (every_good p q good f xs (and_r (good x) (every good xs) t))

  pub gather_ones : (xs : List A) → gather (λ x. x ∷ []) xs ≡ xs
  unfolding gather
  gather_ones [] = refl
  gather_ones (x ∷ xs) = ap (λ l. x ∷ l) (gather_ones xs)

module _ {A B : Type 0} where
  pub gather_none : (xs : List A) → gather {B = B} (λ x. []) xs ≡ []
  unfolding gather
  gather_none [] = refl
  gather_none (x ∷ xs) = gather_none xs

  -- two functions that agree
  pub gather_alike : (f g : A → List B) (xs : List A) → ((x : A) → f x ≡ g x) → gather f xs ≡ gather g xs
  unfolding gather
  gather_alike f g [] e = refl
  gather_alike f g (x ∷ xs) e = ap₂ ◌++◌ (e x) (gather_alike f g xs e)

  pub gather_gather : {C : Type 0} (f : B → List C) (g : A → List B) (xs : List A) → gather f (gather g xs) ≡ gather (λ x. gather f (g x)) xs
  unfolding gather
  gather_gather f g [] = refl
  gather_gather f g (x ∷ xs) = gather_append f (g x) (gather g xs) ∙ ap (λ l. gather f (g x) ++ l) (gather_gather f g xs)

  pub gather_map : {C : Type 0} (f : B → List C) (g : A → B) (xs : List A) → gather f (map g xs) ≡ gather (λ x. f (g x)) xs
  unfolding gather
  gather_map f g [] = refl
  gather_map f g (x ∷ xs) = ap (λ l. f (g x) ++ l) (gather_map f g xs)

  pub map_gather : {C : Type 0} (f : B → C) (g : A → List B) (xs : List A) → map f (gather g xs) ≡ gather (λ x. map f (g x)) xs
  unfolding gather
  map_gather f g [] = refl
  map_gather f g (x ∷ xs) = map-append f (g x) (gather g xs) ∙ ap (λ l. map f (g x) ++ l) (map_gather f g xs)

  -- one item for each
  pub map_ones : (f : A → B) (xs : List A) → map f xs ≡ gather (λ x. f x ∷ []) xs
  unfolding gather
  map_ones f [] = refl
  map_ones f (x ∷ xs) = ap (λ l. f x ∷ l) (map_ones f xs)

  pub select_gather : (p : B → Bool) (f : A → List B) (xs : List A) → select p (gather f xs) ≡ gather (λ x. select p (f x)) xs
  unfolding gather select
  select_gather p f [] = refl
  select_gather p f (x ∷ xs) = select_append p (f x) (gather f xs) ∙ ap (λ l. select p (f x) ++ l) (select_gather p f xs)

  -- what is not selected gives nothing
  pub gather_select : (f : A → List B) (p : A → Bool) (xs : List A) → gather f (select p xs) ≡ gather (λ x. cond (p x) (f x) []) xs
  unfolding gather select
  gather_select f p [] = refl
  gather_select f p (x ∷ xs) = go (p x) (gather_select f p xs)
    where
      go : (b : Bool) → gather f (select p xs) ≡ gather (λ x. cond (p x) (f x) []) xs → gather f (cond b (x ∷ select p xs) (select p xs)) ≡ cond b (f x) [] ++ gather (λ x. cond (p x) (f x) []) xs
      go true e = ap (λ l. f x ++ l) e
      go false e = e

  pub map_none : (f : A → B) (b : Bool) (xs : List A) → map f (cond b xs []) ≡ cond b (map f xs) []
  map_none f true xs = refl
  map_none f false xs = refl

  pub every_of_map : (p : B → Bool) (f : A → B) (xs : List A) → every p (map f xs) ≡ every (λ x. p (f x)) xs
  unfolding every
  every_of_map p f [] = refl
  every_of_map p f (x ∷ xs) = ap (λ t. p (f x) && t) (every_of_map p f xs)

  pub some_of_map : (p : B → Bool) (f : A → B) (xs : List A) → some? p (map f xs) ≡ some? (λ x. p (f x)) xs
  unfolding some?
  some_of_map p f [] = refl
  some_of_map p f (x ∷ xs) = ap (λ t. p (f x) || t) (some_of_map p f xs)

  pub every_gathers : (p : B → Bool) (f : A → List B) (xs : List A) → every p (gather f xs) ≡ every (λ x. every p (f x)) xs
  unfolding every gather
  every_gathers p f [] = refl
  every_gathers p f (x ∷ xs) = every_append_same p (f x) (gather f xs) ∙ ap (λ b. every p (f x) && b) (every_gathers p f xs)
