-- Tests over counted lists, and that no item of one stands twice.
use mathlib.Core.Path.{◌≡◌, refl, ap₂}
use mathlib.Core.List.{map}
use mathlib.Core.Bool.{Bool, true, false, ◌||◌, not}
use Prim.Native.Nat.{ℕ, zero, suc, ◌+◌, ◌<◌, ◌≤◌}
use native.Mathlib.Decide.{dec_lt}
use native.Mathlib.Omega.{arith}
use lib.Dec.{T}
use Rattle.lists.specs.Lists.{some?, distinct, count_from}
use Rattle.lists.proofs.Laws.{and_l, and_r, and_both, not_or_l, not_or_r}
use Rattle.lists.proofs.Gathers.{some_of_map}

none_both : (a b : Bool) → T (not a) → T (not b) → T (not (a || b))
none_both true b s t = absurd s
none_both false b s t = t

-- ---- a test that fails of each that is counted

module _ (p : ℕ → Bool) where
  pub none_made : (a n : ℕ) → ((i : ℕ) → a ≤ i → i < a + n → T (not (p i))) → T (not (some? p (count_from a n)))
  unfolding some? count_from
  none_made a zero h = tt
  none_made a (suc n) h = none_both (p a) (some? p (count_from (suc a) n)) (h a (omega arith) (omega arith)) (none_made (suc a) n (λ i l m. h i (omega arith) (omega arith)))

  pub none_at : (a n : ℕ) → T (not (some? p (count_from a n))) → (i : ℕ) → a ≤ i → i < a + n → T (not (p i))
  unfolding some? count_from
  none_at a zero t i h k = absurd (omega arith)
  none_at a (suc n) t i h k = go (dec_lt a i) (λ l. none_at (suc a) n (not_or_r (p a) (some? p (count_from (suc a) n)) t) i (omega arith) (omega arith))
    where
      go : Dec (a < i) → (a < i → T (not (p i))) → T (not (p i))
      go (yes l) f = f l
      go (no l) f =
          let e : i ≡ a = omega arith in
          rw e (not_or_l (p a) (some? p (count_from (suc a) n)) t)

pub some_alike : (p q : ℕ → Bool) (a n : ℕ) → ((i : ℕ) → a ≤ i → i < a + n → p i ≡ q i) → some? p (count_from a n) ≡ some? q (count_from a n)
unfolding some? count_from
some_alike p q a zero h = refl
some_alike p q a (suc n) h = ap₂ ◌||◌ (h a (omega arith) (omega arith)) (some_alike p q (suc a) n (λ i l m. h i (omega arith) (omega arith)))

-- ---- no two of what a function makes of each that is counted are the same

module _ {A : Type 0} (same : A → A → Bool) (g : ℕ → A) where
  pub distinct_made : (a n : ℕ) → ((i j : ℕ) → a ≤ i → i < j → j < a + n → T (not (same (g i) (g j)))) → T (distinct same (map g (count_from a n)))
  unfolding distinct count_from
  distinct_made a zero h = tt
  distinct_made a (suc n) h =
      and_both (not (some? (same (g a)) (map g (count_from (suc a) n)))) (distinct same (map g (count_from (suc a) n)))
      (rw (some_of_map (same (g a)) g (count_from (suc a) n)) (none_made (λ j. same (g a) (g j)) (suc a) n (λ j l m. h a j (omega arith) (omega arith) (omega arith))))
      (distinct_made (suc a) n (λ i j k l m. h i j (omega arith) (omega arith) (omega arith)))

  pub distinct_at : (a n : ℕ) → T (distinct same (map g (count_from a n))) → (i j : ℕ) → a ≤ i → i < j → j < a + n → T (not (same (g i) (g j)))
  unfolding distinct count_from
  distinct_at a zero t i j k l m = absurd (omega arith)
  distinct_at a (suc n) t i j k l m =
      go (dec_lt a i) (λ h. distinct_at (suc a) n (and_r (not (some? (same (g a)) (map g (count_from (suc a) n)))) (distinct same (map g (count_from (suc a) n))) t) i j (omega arith) l (omega arith))
    where
      go : Dec (a < i) → (a < i → T (not (same (g i) (g j)))) → T (not (same (g i) (g j)))
      go (yes h) f = f h
      go (no h) f =
          let e : i ≡ a = omega arith in
          let u = rw (some_of_map (same (g a)) g (count_from (suc a) n)) at (and_l (not (some? (same (g a)) (map g (count_from (suc a) n)))) (distinct same (map g (count_from (suc a) n))) t) in
          rw e (none_at (λ j. same (g a) (g j)) (suc a) n u j (omega arith) (omega arith))
