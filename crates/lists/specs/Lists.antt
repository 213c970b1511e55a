-- Lists and tests that every definition shares. A test is a Bool, so that every definition computes.
use Rattle.std.specs.Prelude.{List, [], ◌∷◌, ◌++◌, Bool, true, false, ◌&&◌, ◌||◌, not, cond, ℕ, zero, suc, eqb}

module _ {A : Type 0} where
  -- the items that pass a test, in order
  unfoldable pub select : (A → Bool) → List A → List A
  select p [] = []
  select p (x ∷ xs) = let rest = select p xs in cond (p x) (x ∷ rest) rest

  unfoldable pub every : (A → Bool) → List A → Bool
  every p [] = true
  every p (x ∷ xs) = p x && every p xs

  unfoldable pub some? : (A → Bool) → List A → Bool
  some? p [] = false
  some? p (x ∷ xs) = p x || some? p xs

  unfoldable pub empty? : List A → Bool
  empty? [] = true
  empty? (x ∷ xs) = false

  -- item number n, counted from 0, or d where there is none
  unfoldable pub nth : A → List A → ℕ → A
  nth d [] n = d
  nth d (x ∷ xs) zero = x
  nth d (x ∷ xs) (suc n) = nth d xs n

  -- no item stands twice, by a test of sameness
  unfoldable pub distinct : (A → A → Bool) → List A → Bool
  distinct same [] = true
  distinct same (x ∷ xs) = not (some? (same x) xs) && distinct same xs

-- a fact of each item
pub data All {A : Type 0} (P : A → Type 0) : List A → Type 0 where
  all_nil : All P []
  all_cons : {x : A} {xs : List A} → P x → All P xs → All P (x ∷ xs)

-- for each item of a list the items that it gives, in order
unfoldable pub gather : {A B : Type 0} → (A → List B) → List A → List B
gather f [] = []
gather f (x ∷ xs) = f x ++ gather f xs

-- n numbers from a on
unfoldable pub count_from : ℕ → ℕ → List ℕ
count_from a zero = []
count_from a (suc n) = a ∷ count_from (suc a) n

unfoldable pub same_list : List ℕ → List ℕ → Bool
same_list [] [] = true
same_list [] (y ∷ ys) = false
same_list (x ∷ xs) [] = false
same_list (x ∷ xs) (y ∷ ys) = eqb x y && same_list xs ys

-- the place of a list among lists, counted from 0; where it is not among them, how many they are
unfoldable pub position : List ℕ → List (List ℕ) → ℕ
position n [] = 0
position n (m ∷ ms) = cond (same_list n m) 0 (suc (position n ms))

-- To unfold this is to unfold every definition above.
unfoldable pub lists_compute : Unit {0}
unfolding select every some? empty? nth distinct gather count_from same_list position
lists_compute = tt
