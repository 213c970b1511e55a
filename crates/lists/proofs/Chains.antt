-- What a chain of the library gives, said by our own definitions: `all` and `any` over a range or a part of a list, and a part that is copied.
use mathlib.Core.Path.{◌≡◌, refl, ap, ◌∙◌}
use mathlib.Core.List.{List, [], ◌∷◌}
use mathlib.Core.Bool.{Bool, ◌&&◌, ◌||◌}
use Prim.Native.Nat.{ℕ, zero, suc, ◌+◌, ◌≤◌, ◌<◌}
use native.Mathlib.Numerals.{add-one}
use native.Mathlib.Omega.{arith}
use lib.ListN.{length, get_or, take, drop}
use Rattle.std.specs.List.{list_all, list_any, range_with_len}
use Rattle.lists.specs.Lists.{every, some?, count_from}

-- ---- over a range

pub range_is : (a n : ℕ) → range_with_len a n ≡ count_from a n
unfolding count_from
range_is a zero = refl
range_is a (suc n) = ap (λ l. a ∷ l) (ap (λ b. range_with_len b n) (add-one a) ∙ range_is (suc a) n)

module _ {A : Type 0} where
  pub all_is : (p : A → Bool) (xs : List A) → list_all p xs ≡ every p xs
  unfolding every
  all_is p [] = refl
  all_is p (x ∷ xs) = ap (λ b. p x && b) (all_is p xs)

  pub any_is : (p : A → Bool) (xs : List A) → list_any p xs ≡ some? p xs
  unfolding some?
  any_is p [] = refl
  any_is p (x ∷ xs) = ap (λ b. p x || b) (any_is p xs)

pub all_range : (p : ℕ → Bool) (a n : ℕ) → list_all p (range_with_len a n) ≡ every p (count_from a n)
all_range p a n = all_is p (range_with_len a n) ∙ ap (every p) (range_is a n)

pub any_range : (p : ℕ → Bool) (a n : ℕ) → list_any p (range_with_len a n) ≡ some? p (count_from a n)
any_range p a n = any_is p (range_with_len a n) ∙ ap (some? p) (range_is a n)

-- ---- over a part of a list

module _ {A : Type 0} (d : A) where
  pub part_first : (xs : List A) (at n : ℕ) → at < length xs → take (suc n) (drop at xs) ≡ get_or xs at d ∷ take n (drop (suc at) xs)
  part_first [] at n h = absurd (omega arith)
  part_first (x ∷ xs) zero n h = refl
  part_first (x ∷ xs) (suc at) n h = part_first xs at n (omega arith)

  pub every_part : (p : A → Bool) (xs : List A) (at n : ℕ) → at + n ≤ length xs → every p (take n (drop at xs)) ≡ every (λ i. p (get_or xs i d)) (count_from at n)
  unfolding every count_from
  every_part p xs at zero h = refl
  every_part p xs at (suc n) h = rw (part_first xs at n (omega arith)) (ap (λ b. p (get_or xs at d) && b) (every_part p xs (suc at) n (omega arith)))

  pub some_part : (p : A → Bool) (xs : List A) (at n : ℕ) → at + n ≤ length xs → some? p (take n (drop at xs)) ≡ some? (λ i. p (get_or xs i d)) (count_from at n)
  unfolding some? count_from
  some_part p xs at zero h = refl
  some_part p xs at (suc n) h = rw (part_first xs at n (omega arith)) (ap (λ b. p (get_or xs at d) || b) (some_part p xs (suc at) n (omega arith)))

  pub all_part : (p : A → Bool) (xs : List A) (at n : ℕ) → at + n ≤ length xs → list_all p (take n (drop at xs)) ≡ every (λ i. p (get_or xs i d)) (count_from at n)
  all_part p xs at n h = all_is p (take n (drop at xs)) ∙ every_part p xs at n h

  pub any_part : (p : A → Bool) (xs : List A) (at n : ℕ) → at + n ≤ length xs → list_any p (take n (drop at xs)) ≡ some? (λ i. p (get_or xs i d)) (count_from at n)
  any_part p xs at n h = any_is p (take n (drop at xs)) ∙ some_part p xs at n h
