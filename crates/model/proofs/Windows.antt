-- The windows that are answered are those that have ended, in order.
use mathlib.Core.Path.{◌≡◌, refl, ap}
use mathlib.Core.List.Memᴰ
use mathlib.Core.List.{List, [], ◌∷◌, Memᴰ}
use mathlib.Core.Logic.{inl, inr}
use mathlib.Core.Bool.{Bool, true, false, cond}
use Prim.Native.Nat.{ℕ, zero, suc, ◌+◌, ◌*◌, ◌/◌, ◌≤◌, ◌<◌}
use native.Mathlib.Omega.{arith}
use native.Mathlib.Nat.{div-lt_iff_lt-mul}
use lib.Dec.{T, leb, leb→le, le→leb, nleb→lt}
use Rattle.lists.specs.Lists.{select, count_from}
use Rattle.model.specs.Aggregates.{closed}

module _ {A : Type 0} (p : A → Bool) where
  select_member : (x : A) (xs : List A) → T (p x) → Memᴰ x xs → Memᴰ x (select p xs)
  unfolding select
  select_member x xs t (Memᴰ.head {x = y} {xs = ys} e) = go (p y) (rw e at t)
    where
      go : (b : Bool) → T b → Memᴰ x (cond b (y ∷ select p ys) (select p ys))
      go true t = Memᴰ.head e
      go false t = absurd t
  select_member x xs t (Memᴰ.tail {x = y} {xs = ys} m) = go (p y) (select_member x ys t m)
    where
      go : (b : Bool) → Memᴰ x (select p ys) → Memᴰ x (cond b (y ∷ select p ys) (select p ys))
      go true m = Memᴰ.tail m
      go false m = m

  member_passes : (x : A) (xs : List A) → Memᴰ x (select p xs) → T (p x)
  unfolding select
  member_passes x [] m = absurd (Memᴰ.not-nil m)
  member_passes x (y ∷ ys) m = go (p y) refl m (member_passes x ys)
    where
      go : (b : Bool) → p y ≡ b → Memᴰ x (cond b (y ∷ select p ys) (select p ys)) → (Memᴰ x (select p ys) → T (p x)) → T (p x)
      go true e m f = elim (Memᴰ.cases_cons m) [ inl q ↦ rw (q, e) tt | inr m' ↦ f m' ]
      go false e m f = f m

counted : (a n k : ℕ) → a ≤ k → k < a + n → Memᴰ k (count_from a n)
unfolding count_from
counted a zero k h l = absurd (omega arith)
counted a (suc n) k h l = go (leb k a) refl (λ g. counted (suc a) n k g (omega arith))
  where
    go : (b : Bool) → leb k a ≡ b → (a < k → Memᴰ k (count_from (suc a) n)) → Memᴰ k (a ∷ count_from (suc a) n)
    go true e f = let g = leb→le k a (rw e tt) in let q : k ≡ a = omega arith in Memᴰ.head q
    go false e f = Memᴰ.tail (f (nleb→lt k a (rw e tt)))

-- every window that has ended is among them
pub ended_closed : (clock size offset k : ℕ) → 1 ≤ offset → k * offset + size ≤ clock → Memᴰ k (closed clock size offset)
unfolding closed
ended_closed clock size offset k h l =
    select_member (λ k. leb (k * offset + size) clock) k _ (le→leb (k * offset + size) clock l) (counted 0 (suc (clock / offset)) k (omega arith) (below (leb k (clock / offset)) refl))
  where
    below : (b : Bool) → leb k (clock / offset) ≡ b → k < 0 + suc (clock / offset)
    below true e = let g = leb→le k (clock / offset) (rw e tt) in omega arith
    below false e = let g = (div-lt_iff_lt-mul h).0 (nleb→lt k (clock / offset) (rw e tt)) in absurd (omega arith)

-- and no open one
pub closed_ended : (clock size offset k : ℕ) → Memᴰ k (closed clock size offset) → k * offset + size ≤ clock
unfolding closed
closed_ended clock size offset k m = leb→le (k * offset + size) clock (member_passes (λ k. leb (k * offset + size) clock) k _ m)

-- ---- in order

-- of numbers that pass a test only while all before them do, the first
module _ (p : ℕ → Bool) (down : (k : ℕ) → T (p (suc k)) → T (p k)) where
  none_after : (a n : ℕ) → p a ≡ false → select p (count_from (suc a) n) ≡ []
  unfolding select count_from
  none_after a zero e = refl
  none_after a (suc n) e = go (p (suc a)) refl (none_after (suc a) n)
    where
      go : (b : Bool) → p (suc a) ≡ b → (p (suc a) ≡ false → select p (count_from (suc (suc a)) n) ≡ []) → cond b (suc a ∷ select p (count_from (suc (suc a)) n)) (select p (count_from (suc (suc a)) n)) ≡ []
      go true f i = absurd (rw e at (down a (rw f tt)))
      go false f i = i f

  first_ones : (a n : ℕ) → (m : ℕ) × (select p (count_from a n) ≡ count_from a m)
  unfolding select count_from
  first_ones a zero = (0, refl)
  first_ones a (suc n) = go (p a) refl (first_ones (suc a) n)
    where
      go : (b : Bool) → p a ≡ b → (m : ℕ) × (select p (count_from (suc a) n) ≡ count_from (suc a) m) → (m : ℕ) × (cond b (a ∷ select p (count_from (suc a) n)) (select p (count_from (suc a) n)) ≡ count_from a m)
      go true e (m, i) = (suc m, ap (λ l. a ∷ l) i)
      go false e h = (0, none_after a n e)

pub closed_first : (clock size offset : ℕ) → (n : ℕ) × (closed clock size offset ≡ count_from 0 n)
unfolding closed
closed_first clock size offset =
    first_ones (λ k. leb (k * offset + size) clock)
    (λ k t. let h = leb→le (suc k * offset + size) clock t in le→leb (k * offset + size) clock (omega arith)) 0 (suc (clock / offset))
