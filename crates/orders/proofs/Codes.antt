-- The codes that an order stands for: what stands at its end, how many they are, and those of an order that is made of some.
use mathlib.Core.Path.{◌≡◌, refl, sym, ap, ◌∙◌}
use mathlib.Core.List.{List, [], ◌∷◌, ◌++◌, append_assoc}
use mathlib.Core.Bool.{Bool, true, false, cond}
use Prim.Native.Nat.{ℕ, zero, suc, ◌+◌, ◌*◌, ◌-◌, ◌/◌, ◌%◌, ◌^◌, ◌≤◌, ◌<◌}
use native.Mathlib.Nat.{pow-suc, pow-le-pow_right}
use native.Mathlib.Omega.{arith}
use lib.Dec.{T, ltb, eqb, ltb→lt}
use lib.ListN.{length, length-append}
use borrow.Author.Tests.{lt-ltb, eq-eqb, ne_eqb, eqb-true, eqb-false}
use Rattle.lists.specs.Lists.{select, every}
use Rattle.lists.proofs.Laws.{and_l, and_r, and_both, true_T, append_nil, every_append}
use Rattle.masks.specs.Masks.{bit?}
use Rattle.orders.specs.Orders.{max_order, order_end, codes_before, codes_in, with_code, order_from, order_of, order_within}

-- ---- the last column

behind : (k m : ℕ) (cs : List ℕ) → codes_before k m cs ≡ codes_before k m [] ++ cs
unfolding codes_before
behind zero m cs = refl
behind (suc k) m cs = go (eqb m 0) (behind k (m / 32) ((m % 32 - 1) ∷ cs)) (behind k (m / 32) ((m % 32 - 1) ∷ []))
  where
    go : (b : Bool) → codes_before k (m / 32) ((m % 32 - 1) ∷ cs) ≡ codes_before k (m / 32) [] ++ ((m % 32 - 1) ∷ cs)
        → codes_before k (m / 32) ((m % 32 - 1) ∷ []) ≡ codes_before k (m / 32) [] ++ ((m % 32 - 1) ∷ [])
        → cond b cs (codes_before k (m / 32) ((m % 32 - 1) ∷ cs)) ≡ cond b [] (codes_before k (m / 32) ((m % 32 - 1) ∷ [])) ++ cs
    go true e f = refl
    go false e f = e ∙ sym (append_assoc (codes_before k (m / 32) []) ((m % 32 - 1) ∷ []) cs) ∙ sym (ap (λ l. l ++ cs) f)

pub codes_last : (k m : ℕ) → (m ≡ 0 → ⊥) → codes_before (suc k) m [] ≡ codes_before k (m / 32) [] ++ ((m % 32 - 1) ∷ [])
unfolding codes_before
codes_last k m h = rw (ne_eqb m 0 h) (behind k (m / 32) ((m % 32 - 1) ∷ []))

pub codes_none : (k m : ℕ) → m ≡ 0 → codes_before k m [] ≡ []
unfolding codes_before
codes_none zero m h = refl
codes_none (suc k) m h = rw (eq-eqb m 0 h)

length_last : (xs : List ℕ) (c : ℕ) → length (xs ++ (c ∷ [])) ≡ suc (length xs)
length_last xs c = length-append xs (c ∷ []) ∙ omega arith

-- a fact of the codes, from the first on
codes_by : (P : List ℕ → Type 0) → P [] → ((xs : List ℕ) (c : ℕ) → c < 31 → P xs → P (xs ++ (c ∷ []))) → (k m : ℕ) → P (codes_before k m [])
unfolding codes_before
codes_by P z f zero m = z
codes_by P z f (suc k) m = go (eqb m 0) refl (codes_by P z f k (m / 32))
  where
    go : (b : Bool) → eqb m 0 ≡ b → P (codes_before k (m / 32) []) → P (codes_before (suc k) m [])
    go true e r = rw (codes_none (suc k) m (eqb-true m 0 e)) z
    go false e r = rw (codes_last k m (eqb-false m 0 e)) (f (codes_before k (m / 32) []) (m % 32 - 1) (omega arith) r)

-- ---- how many they are, and how large

codes_most : (k m : ℕ) → length (codes_before k m []) ≤ k
unfolding codes_before
codes_most zero m = omega arith
codes_most (suc k) m = go (eqb m 0) refl (codes_most k (m / 32))
  where
    go : (b : Bool) → eqb m 0 ≡ b → length (codes_before k (m / 32) []) ≤ k → length (codes_before (suc k) m []) ≤ suc k
    go true e r = rw (codes_none (suc k) m (eqb-true m 0 e)) (omega arith)
    go false e r = rw (codes_last k m (eqb-false m 0 e), length_last (codes_before k (m / 32) []) (m % 32 - 1)) (omega arith)

pub most_codes : (m : ℕ) → length (codes_in m) ≤ max_order
unfolding codes_in
most_codes m = codes_most max_order m

abbrev pub codes_fit : List ℕ → Bool
codes_fit cs = every (λ c. ltb c 31) cs

pub small_codes : (m : ℕ) → T (codes_fit (codes_in m))
unfolding codes_in every
small_codes m = codes_by (λ cs. T (codes_fit cs)) tt (λ xs c h r. every_append (λ c. ltb c 31) xs (c ∷ []) r (and_both (ltb c 31) true (true_T (ltb c 31) (lt-ltb c 31 h)) tt)) max_order m

-- ---- an order below a bound

enough : (k m : ℕ) → m < 32 ^ k → codes_before (suc k) m [] ≡ codes_before k m []
unfolding codes_before
enough zero m h = codes_none 1 m (omega arith)
enough (suc k) m h = go (eqb m 0) refl (λ l. enough k (m / 32) l)
  where
    go : (b : Bool) → eqb m 0 ≡ b → (m / 32 < 32 ^ k → codes_before (suc k) (m / 32) [] ≡ codes_before k (m / 32) []) → codes_before (suc (suc k)) m [] ≡ codes_before (suc k) m []
    go true e f = let z = eqb-true m 0 e in codes_none (suc (suc k)) m z ∙ sym (codes_none (suc k) m z)
    go false e f =
        let z = eqb-false m 0 e in
        let p = pow-suc 32 k in
        codes_last (suc k) m z ∙ ap (λ l. l ++ ((m % 32 - 1) ∷ [])) (f (omega arith)) ∙ sym (codes_last k m z)

fits : (k m : ℕ) → m < 32 ^ k → m < 32 ^ length (codes_before k m [])
unfolding codes_before
fits zero m h = h
fits (suc k) m h = go (eqb m 0) refl (λ l. fits k (m / 32) l)
  where
    go : (b : Bool) → eqb m 0 ≡ b → (m / 32 < 32 ^ k → m / 32 < 32 ^ length (codes_before k (m / 32) [])) → m < 32 ^ length (codes_before (suc k) m [])
    go true e f = let z = eqb-true m 0 e in rw (codes_none (suc k) m z) (omega arith)
    go false e f =
        let z = eqb-false m 0 e in
        let p = pow-suc 32 k in
        let r = f (omega arith) in
        let q = pow-suc 32 (length (codes_before k (m / 32) [])) in
        rw (codes_last k m z, length_last (codes_before k (m / 32) []) (m % 32 - 1)) (omega arith)

-- where it has fewer columns than it may have there is room
pub room : (m : ℕ) → m < order_end → length (codes_in m) < max_order → m * 32 < order_end
unfolding codes_in
room m h k =
    let f : m < 32 ^ length (codes_before 12 m []) = fits 12 m h in
    let p = pow-le-pow_right {n = 32} (omega arith) {i = length (codes_before 12 m [])} {j = 11} (omega arith) in
    omega arith

-- ---- one column more, and some

pub codes_with : (m c : ℕ) → m * 32 < order_end → c < 31 → codes_in (with_code m c) ≡ codes_in m ++ (c ∷ [])
unfolding codes_in with_code
codes_with m c h k =
    let a : (m * 32 + (c + 1)) / 32 ≡ m = omega arith in
    let b : (m * 32 + (c + 1)) % 32 - 1 ≡ c = omega arith in
    let l : m < 32 ^ 11 = omega arith in
    rw (lt-ltb (m * 32) order_end h, lt-ltb c 31 k)
    (codes_last 11 (m * 32 + (c + 1)) (λ z. omega arith) ∙ rw (a, b) (ap (λ l. l ++ (c ∷ [])) (sym (enough 11 m l))))

pub with_below : (m c : ℕ) → m < order_end → with_code m c < order_end
unfolding with_code
with_below m c h = go (ltb (m * 32) order_end) refl (ltb c 31) refl
  where
    go : (a : Bool) → ltb (m * 32) order_end ≡ a → (b : Bool) → ltb c 31 ≡ b → cond a (cond b (m * 32 + (c + 1)) m) m < order_end
    go true d true e =
        let x = ltb→lt (m * 32) order_end (true_T _ d) in
        let y = ltb→lt c 31 (true_T _ e) in
        omega arith
    go true d false e = h
    go false d b e = h

pub from_below : (m : ℕ) (cs : List ℕ) → m < order_end → order_from m cs < order_end
unfolding order_from
from_below m [] h = h
from_below m (c ∷ cs) h = from_below (with_code m c) cs (with_below m c h)

pub of_below : (cs : List ℕ) → order_of cs < order_end
unfolding order_of
of_below cs = from_below 0 cs (omega arith)

pub within_below : (mask m : ℕ) → order_within mask m < order_end
unfolding order_within
within_below mask m = of_below (select (bit? mask) (codes_in m))

pub codes_from : (m : ℕ) (cs : List ℕ) → m < order_end → length (codes_in m) + length cs ≤ max_order → T (codes_fit cs) → codes_in (order_from m cs) ≡ codes_in m ++ cs
unfolding order_from every
codes_from m [] h k t = sym (append_nil (codes_in m))
codes_from m (c ∷ cs) h k t =
    let r = room m h (omega arith) in
    let e = codes_with m c r (ltb→lt c 31 (and_l (ltb c 31) (codes_fit cs) t)) in
    let l : length (codes_in (with_code m c)) + length cs ≤ max_order = rw (e, length_last (codes_in m) c) (omega arith) in
    codes_from (with_code m c) cs (with_below m c h) l (and_r (ltb c 31) (codes_fit cs) t) ∙ rw e (append_assoc (codes_in m) (c ∷ []) cs)

pub codes_empty : codes_in 0 ≡ []
unfolding codes_in
codes_empty = codes_none max_order 0 refl

pub codes_of : (cs : List ℕ) → length cs ≤ max_order → T (codes_fit cs) → codes_in (order_of cs) ≡ cs
unfolding order_of
codes_of cs h t = codes_from 0 cs (omega arith) (rw codes_empty (omega arith)) t ∙ ap (λ l. l ++ cs) codes_empty

-- ---- those of a mask

pub length_select : (p : ℕ → Bool) (cs : List ℕ) → length (select p cs) ≤ length cs
unfolding select
length_select p [] = omega arith
length_select p (c ∷ cs) = go (p c) (length_select p cs)
  where
    go : (b : Bool) → length (select p cs) ≤ length cs → length (cond b (c ∷ select p cs) (select p cs)) ≤ suc (length cs)
    go true h = omega arith
    go false h = omega arith

pub fit_select : (p : ℕ → Bool) (cs : List ℕ) → T (codes_fit cs) → T (codes_fit (select p cs))
unfolding select every
fit_select p [] t = tt
fit_select p (c ∷ cs) t = go (p c) (fit_select p cs (and_r (ltb c 31) (codes_fit cs) t))
  where
    go : (b : Bool) → T (codes_fit (select p cs)) → T (codes_fit (cond b (c ∷ select p cs) (select p cs)))
    go true h = and_both (ltb c 31) (codes_fit (select p cs)) (and_l (ltb c 31) (codes_fit cs) t) h
    go false h = h

pub codes_within : (mask m : ℕ) → codes_in (order_within mask m) ≡ select (bit? mask) (codes_in m)
unfolding order_within
codes_within mask m =
    let a = length_select (bit? mask) (codes_in m) in
    let b = most_codes m in
    codes_of (select (bit? mask) (codes_in m)) (omega arith) (fit_select (bit? mask) (codes_in m) (small_codes m))

-- of an order that is made of some
pub within_of : (mask : ℕ) (cs : List ℕ) → length cs ≤ max_order → T (codes_fit cs) → order_within mask (order_of cs) ≡ order_of (select (bit? mask) cs)
unfolding order_within
within_of mask cs h t = ap (λ l. order_of (select (bit? mask) l)) (codes_of cs h t)
