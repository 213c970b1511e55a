-- Laws of counted lists and of tests over them.
use mathlib.Core.Path.{◌≡◌, refl, sym, ap, ap₂, ◌∙◌}
use mathlib.Core.List.{List, [], ◌∷◌, ◌++◌, map}
use mathlib.Core.Bool.{Bool, true, false, ◌&&◌}
use Prim.Native.Nat.{ℕ, zero, suc, ◌+◌, ◌-◌, ◌≤◌, ◌<◌}
use native.Mathlib.Numerals.{add-one}
use native.Mathlib.Omega.{arith}
use native.Mathlib.Decide.{dec_lt}
use lib.Dec.{T}
use lib.ListN.{length, get_or, set, get_or-eq_default}
use Rattle.lists.specs.Lists.{every, count_from, nth}
use Rattle.lists.proofs.Laws.{and_l, and_r, and_both}

-- ---- numbers in a row

-- the first of those that are left below m
pub count_left : (i m : ℕ) → i < m → count_from i (m - i) ≡ i ∷ count_from (i + 1) (m - (i + 1))
unfolding count_from
count_left i m h =
    let e : m - i ≡ suc (m - (i + 1)) = omega arith in
    rw (e, add-one i)

-- none is left
pub count_done : (i m : ℕ) → m ≤ i → count_from i (m - i) ≡ []
unfolding count_from
count_done i m h =
    let e : m - i ≡ 0 = omega arith in
    rw e

-- one more at the end
pub count_more : (a n : ℕ) → count_from a (suc n) ≡ count_from a n ++ ((a + n) ∷ [])
unfolding count_from
count_more a zero =
    let e : a + 0 ≡ a = omega arith in
    rw e
count_more a (suc n) =
    let e : suc a + n ≡ a + suc n = omega arith in
    ap (λ l. a ∷ l) (rw e at (count_more (suc a) n))

pub count_length : (a n : ℕ) → length (count_from a n) ≡ n
unfolding count_from
count_length a zero = refl
count_length a (suc n) = ap suc (count_length (suc a) n)

module _ {B : Type 0} where
  pub map_shift : (f : ℕ → B) (a n : ℕ) → map f (count_from (suc a) n) ≡ map (λ i. f (suc i)) (count_from a n)
  unfolding count_from
  map_shift f a zero = refl
  map_shift f a (suc n) = ap (λ l. f (suc a) ∷ l) (map_shift f (suc a) n)

  pub map_length : (f : ℕ → B) (a n : ℕ) → length (map f (count_from a n)) ≡ n
  unfolding count_from
  map_length f a zero = refl
  map_length f a (suc n) = ap suc (map_length f (suc a) n)

  pub nth_map : (d : B) (f : ℕ → B) (a n s : ℕ) → s < n → nth d (map f (count_from a n)) s ≡ f (a + s)
  unfolding count_from nth
  nth_map d f a zero s h = absurd (omega arith)
  nth_map d f a (suc n) zero h =
      let e : a + 0 ≡ a = omega arith in
      rw e
  nth_map d f a (suc n) (suc s) h =
      let e : suc a + s ≡ a + suc s = omega arith in
      rw e at (nth_map d f (suc a) n s (omega arith))

  -- two functions that agree on what is counted
  pub map_alike : (f g : ℕ → B) (a n : ℕ) → ((i : ℕ) → a ≤ i → i < a + n → f i ≡ g i) → map f (count_from a n) ≡ map g (count_from a n)
  unfolding count_from
  map_alike f g a zero h = refl
  map_alike f g a (suc n) h = ap₂ ◌∷◌ (h a (omega arith) (omega arith)) (map_alike f g (suc a) n (λ i l m. h i (omega arith) (omega arith)))

  -- and that agree on all but one
  pub map_set : (f g : ℕ → B) (a n s : ℕ) → s < n → ((i : ℕ) → a ≤ i → i < a + n → (i ≡ a + s → ⊥) → g i ≡ f i) → map g (count_from a n) ≡ set (map f (count_from a n)) s (g (a + s))
  unfolding count_from
  map_set f g a zero s h k = absurd (omega arith)
  map_set f g a (suc n) zero h k =
      let e : a + 0 ≡ a = omega arith in
      rw e (ap (λ l. g a ∷ l) (map_alike g f (suc a) n (λ i l m. k i (omega arith) (omega arith) (λ z. omega arith))))
  map_set f g a (suc n) (suc s) h k =
      let e : suc a + s ≡ a + suc s = omega arith in
      ap₂ ◌∷◌ (k a (omega arith) (omega arith) (λ z. omega arith))
      (rw e at (map_set f g (suc a) n s (omega arith) (λ i l m z. k i (omega arith) (omega arith) (λ y. z (omega arith)))))

-- a list is what stands at its places
pub map_places : {A : Type 0} (d : A) (xs : List A) → map (λ i. get_or xs i d) (count_from 0 (length xs)) ≡ xs
unfolding count_from
map_places d [] = refl
map_places d (x ∷ xs) = ap (λ l. x ∷ l) (map_shift (λ i. get_or (x ∷ xs) i d) 0 (length xs) ∙ map_places d xs)

-- ---- tests

pub every_left : (p : ℕ → Bool) (i m : ℕ) → i < m → every p (count_from i (m - i)) ≡ (p i && every p (count_from (i + 1) (m - (i + 1))))
unfolding every
every_left p i m h = rw (count_left i m h)

pub every_done : (p : ℕ → Bool) (i m : ℕ) → m ≤ i → every p (count_from i (m - i)) ≡ true
unfolding every
every_done p i m h = rw (count_done i m h)

-- a test that holds leaves the rest, and one that fails decides
pub every_past : (p : ℕ → Bool) (i m : ℕ) → i < m → p i ≡ true → every p (count_from i (m - i)) ≡ every p (count_from (i + 1) (m - (i + 1)))
every_past p i m h e = every_left p i m h ∙ ap (λ b. b && every p (count_from (i + 1) (m - (i + 1)))) e

pub every_fails : (p : ℕ → Bool) (i m : ℕ) → i < m → p i ≡ false → every p (count_from i (m - i)) ≡ false
every_fails p i m h e = every_left p i m h ∙ ap (λ b. b && every p (count_from (i + 1) (m - (i + 1)))) e

pub every_shift : (p : ℕ → Bool) (a n : ℕ) → every p (count_from (suc a) n) ≡ every (λ i. p (suc i)) (count_from a n)
unfolding every count_from
every_shift p a zero = refl
every_shift p a (suc n) = ap (λ b. p (suc a) && b) (every_shift p (suc a) n)

-- a test of every item is one of every place
pub every_places : {A : Type 0} (p : A → Bool) (d : A) (xs : List A) → every p xs ≡ every (λ i. p (get_or xs i d)) (count_from 0 (length xs))
unfolding every count_from
every_places p d [] = refl
every_places p d (x ∷ xs) = ap (λ b. p x && b) (every_places p d xs ∙ sym (every_shift (λ i. p (get_or (x ∷ xs) i d)) 0 (length xs)))

pub every_alike : (p q : ℕ → Bool) (a n : ℕ) → ((i : ℕ) → a ≤ i → i < a + n → p i ≡ q i) → every p (count_from a n) ≡ every q (count_from a n)
unfolding every count_from
every_alike p q a zero h = refl
every_alike p q a (suc n) h = ap₂ ◌&&◌ (h a (omega arith) (omega arith)) (every_alike p q (suc a) n (λ i l m. h i (omega arith) (omega arith)))

-- a test that holds of each that is counted
pub every_at : (p : ℕ → Bool) (a n : ℕ) → T (every p (count_from a n)) → (i : ℕ) → a ≤ i → i < a + n → T (p i)
unfolding every count_from
every_at p a zero t i h k = absurd (omega arith)
every_at p a (suc n) t i h k = go (dec_lt a i) (λ l. every_at p (suc a) n (and_r (p a) (every p (count_from (suc a) n)) t) i (omega arith) (omega arith))
  where
    go : Dec (a < i) → (a < i → T (p i)) → T (p i)
    go (yes l) f = f l
    go (no l) f =
        let e : i ≡ a = omega arith in
        rw e (and_l (p a) (every p (count_from (suc a) n)) t)

pub every_map : {A : Type 0} (p : A → Bool) (f : ℕ → A) (a n : ℕ) → ((i : ℕ) → a ≤ i → i < a + n → T (p (f i))) → T (every p (map f (count_from a n)))
unfolding every count_from
every_map p f a zero h = tt
every_map p f a (suc n) h = and_both (p (f a)) (every p (map f (count_from (suc a) n))) (h a (omega arith) (omega arith)) (every_map p f (suc a) n (λ i l m. h i (omega arith) (omega arith)))

pub every_made : (p : ℕ → Bool) (a n : ℕ) → ((i : ℕ) → a ≤ i → i < a + n → T (p i)) → T (every p (count_from a n))
unfolding every count_from
every_made p a zero h = tt
every_made p a (suc n) h = and_both (p a) (every p (count_from (suc a) n)) (h a (omega arith) (omega arith)) (every_made p (suc a) n (λ i l m. h i (omega arith) (omega arith)))

pub every_set : {A : Type 0} (p : A → Bool) (xs : List A) (i : ℕ) (x : A) → T (every p xs) → T (p x) → T (every p (set xs i x))
unfolding every
every_set p [] i x t u = tt
every_set p (y ∷ ys) zero x t u = and_both (p x) (every p ys) u (and_r (p y) (every p ys) t)
every_set p (y ∷ ys) (suc i) x t u = and_both (p y) (every p (set ys i x)) (and_l (p y) (every p ys) t) (every_set p ys i x (and_r (p y) (every p ys) t) u)

-- past its end a list of numbers holds 0
pub number_none : (xs : List ℕ) (i : ℕ) → length xs ≤ i → 0 ≡ get_or xs i 0
number_none xs i h = sym (get_or-eq_default xs 0 {n = i} h)
