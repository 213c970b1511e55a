-- The loops over the columns of an order: each return, and each turn.
use mathlib.Core.Path.{◌≡◌, refl, sym, ap, ◌∙◌}
use mathlib.Core.List.{List, [], ◌∷◌, ◌++◌, reverse, reverse_aux, reverse-append, reverse-reverse}
use mathlib.Core.Bool.{Bool, true, false, cond}
use Prim.Native.Nat.{ℕ, zero, suc, ◌+◌, ◌*◌, ◌-◌, ◌/◌, ◌%◌, ◌^◌, ◌≤◌, ◌<◌}
use native.Mathlib.Omega.{arith}
use lib.Bits.{bit_or, or_comm, or_zero_l, or_zero_r}
use lib.Dec.{T, ltb}
use lib.ListN.{length, get_or, length-append, length-reverse, get_or-append, get_or-eq_default}
use lib.Seq.{get_or_at}
use borrow.Author.Tests.{lt-ltb, le-ltb}
use Rattle.lists.specs.Lists.{select, every}
use Rattle.lists.proofs.Laws.{and_l, and_r, and_both}
use Rattle.masks.specs.Masks.{bit?, with_bit, mask_of}
use Rattle.masks.proofs.Lists.{mask_append, or_assoc}
use Rattle.orders.specs.Orders.{max_order, order_end, codes_before, codes_in, with_code, order_from, order_of, order_within}
use Rattle.orders.proofs.Codes.{codes_last, codes_none, codes_fit, codes_of, most_codes, small_codes, length_select, fit_select}

-- ---- one column more

module _ (m c : ℕ) where
  pub with_full : 36028797018963968 ≤ m → m ≡ with_code m c
  unfolding with_code
  with_full h = rw (le-ltb (m * 32) order_end (omega arith))

  pub with_other : m < 36028797018963968 → 31 ≤ c → m ≡ with_code m c
  unfolding with_code
  with_other h k = rw (lt-ltb (m * 32) order_end (omega arith), le-ltb c 31 k)

  pub with_last : m < 36028797018963968 → c < 31 → m * 32 + (c + 1) ≡ with_code m c
  unfolding with_code
  with_last h k = rw (lt-ltb (m * 32) order_end (omega arith), lt-ltb c 31 k)

pub ruleset with_ends = (with_full, with_other, with_last)

module _ (m mask c : ℕ) (b : Bool) (e : b ≡ bit? mask c) where
  pub shown_with : {x : ℕ} → x ≡ with_code m c → b ≡ true → x ≡ cond (bit? mask c) (with_code m c) m
  shown_with h t = rw (sym e ∙ t) h

  pub shown_not : b ≡ false → m ≡ cond (bit? mask c) (with_code m c) m
  shown_not t = rw (sym e ∙ t)

pub ruleset shown_ends = (shown_with, shown_not)

-- ---- the columns that are left, from the end

-- those of the first 12 - n
abbrev pub left : ℕ → ℕ → List ℕ
left m n = codes_before (max_order - n) m []

left_last : (m n : ℕ) → n < 12 → (m ≡ 0 → ⊥) → left m n ≡ left (m / 32) (n + 1) ++ ((m % 32 - 1) ∷ [])
left_last m n h z =
    let e : 12 - n ≡ suc (12 - (n + 1)) = omega arith in
    rw e (codes_last (12 - (n + 1)) m z)

left_over : (m n : ℕ) → 12 ≤ n → left m n ≡ []
unfolding codes_before
left_over m n h =
    let e : 12 - n ≡ 0 = omega arith in
    rw e

length_end : (xs : List ℕ) (c : ℕ) → length (xs ++ (c ∷ [])) ≡ length xs + 1
length_end xs c = length-append xs (c ∷ [])

module _ (order : ℕ) where
  pub count_start : length (codes_in order) ≡ length (left order 0) + 0
  unfolding codes_in
  count_start = omega arith

  pub mask_start : mask_of (codes_in order) ≡ bit_or (mask_of (left order 0)) 0
  unfolding codes_in
  mask_start = sym (or_zero_r (mask_of (left order 0)))

  module _ (m n : ℕ) where
    module _ (inv : length (codes_in order) ≡ length (left m n) + n) where
      pub count_stop : m ≡ 0 → n ≡ length (codes_in order)
      count_stop z = let e = ap length (codes_none (12 - n) m z) in omega arith

      pub count_full : 12 ≤ n → n ≤ 12 → 12 ≡ length (codes_in order)
      count_full h k = let e = ap length (left_over m n h) in omega arith

      pub count_on : n < 12 → (m ≡ 0 → ⊥) → length (codes_in order) ≡ length (left (m / 32) (n + 1)) + (n + 1)
      count_on h z =
          let e = ap length (left_last m n h z) in
          let f = length_end (left (m / 32) (n + 1)) (m % 32 - 1) in
          omega arith

    module _ (mask : ℕ) (inv : mask_of (codes_in order) ≡ bit_or (mask_of (left m n)) mask) where
      mask_done : left m n ≡ [] → mask ≡ mask_of (codes_in order)
      unfolding mask_of
      mask_done e = sym (inv ∙ rw e (or_zero_l mask))

      pub mask_stop : m ≡ 0 → mask ≡ mask_of (codes_in order)
      mask_stop z = mask_done (codes_none (12 - n) m z)

      pub mask_full : 12 ≤ n → mask ≡ mask_of (codes_in order)
      mask_full h = mask_done (left_over m n h)

      pub mask_on : {c k : ℕ} → n < 12 → (m ≡ 0 → ⊥) → c ≡ m % 32 - 1 → k ≡ with_bit mask c → mask_of (codes_in order) ≡ bit_or (mask_of (left (m / 32) (n + 1))) k
      unfolding with_bit mask_of
      mask_on {c} {k} h z e w =
          let a : k ≡ bit_or mask (2 ^ c) = w ∙ rw (lt-ltb c 32 (omega arith)) in
          let xs = left (m / 32) (n + 1) in
          let b : mask_of (left m n) ≡ bit_or (mask_of xs) (2 ^ c) = ap mask_of (left_last m n h z) ∙ mask_append xs ((m % 32 - 1) ∷ []) ∙ ap (bit_or (mask_of xs)) (or_zero_r (2 ^ (m % 32 - 1))) ∙ rw e in
          inv ∙ ap (λ x. bit_or x mask) b ∙ or_assoc (mask_of xs) (2 ^ c) mask ∙ ap (bit_or (mask_of xs)) (or_comm (2 ^ c) mask ∙ sym a)

pub ruleset count_ends = (count_start, count_stop, count_full, count_on)

pub ruleset mask_ends = (mask_start, mask_stop, mask_full, mask_on)

-- ---- the column at a place

-- some of an order's columns from the first on are those of m, with column i among them
pub record Reaching (order i m left : ℕ) : Type 0 where
  pub places : ℕ
  pub many : length (codes_before places m []) ≡ left
  pub below : i < left
  pub same : get_or (codes_in order) i 0 ≡ get_or (codes_before places m []) i 0

pub at_none : (order i n : ℕ) → n ≡ length (codes_in order) → n ≤ i → 0 ≡ get_or (codes_in order) i 0
at_none order i n e h = sym (get_or-eq_default (codes_in order) 0 (omega arith))

pub at_start : (order i n : ℕ) → n ≡ length (codes_in order) → i < n → Reaching order i order n
unfolding codes_in
at_start order i n e h = record { places = max_order; many = sym e; below = h; same = refl }

reached : (i m k n : ℕ) → i < n → length (codes_before k m []) ≡ n → codes_before k m [] ≡ codes_before (k - 1) (m / 32) [] ++ ((m % 32 - 1) ∷ [])
unfolding codes_before
reached i m zero n h e = absurd (omega arith)
reached i m (suc k) n h e =
    let d : suc k - 1 ≡ k = omega arith in
    rw d (codes_last k m (λ z. let l = ap length (codes_none (suc k) m z) in omega arith))

pub at_on : (order i m n : ℕ) → Reaching order i m n → i + 1 < n → {l : ℕ} → l ≡ n - 1 → Reaching order i (m / 32) l
at_on order i m n r h d =
    let k = r.places in
    let e = reached i m k n r.below r.many in
    let l = ap length e in
    let f = length_end (codes_before (k - 1) (m / 32) []) (m % 32 - 1) in
    let g = r.many in
    record {
      places = k - 1;
      many = omega arith;
      below = omega arith;
      same = r.same ∙ ap (λ l. get_or l i 0) e ∙ get_or-append (codes_before (k - 1) (m / 32) []) ((m % 32 - 1) ∷ []) 0 i (omega arith);
    }

pub at_end : (order i m n : ℕ) → Reaching order i m n → n ≤ i + 1 → {x : ℕ} → x ≡ m % 32 - 1 → x ≡ get_or (codes_in order) i 0
at_end order i m n r h w =
    let k = r.places in
    let e = reached i m k n r.below r.many in
    let l = ap length e in
    let f = length_end (codes_before (k - 1) (m / 32) []) (m % 32 - 1) in
    let g = r.many in
    let b = r.below in
    sym (r.same ∙ ap (λ l. get_or l i 0) e ∙ get_or_at (codes_before (k - 1) (m / 32) []) (m % 32 - 1) [] 0 i (omega arith) ∙ sym w)

pub ruleset at_ends = (at_none, at_start, at_on, at_end)

-- ---- orders made column by column

-- a column that is passed
pub passed : (p : ℕ → Bool) (m c : ℕ) (cs : List ℕ) → order_from m (select p (c ∷ cs)) ≡ order_from (cond (p c) (with_code m c) m) (select p cs)
unfolding order_from select
passed p m c cs = go (p c)
  where
    go : (b : Bool) → order_from m (cond b (c ∷ select p cs) (select p cs)) ≡ order_from (cond b (with_code m c) m) (select p cs)
    go true = refl
    go false = refl

-- ---- from the last column to the first

reverse_last : (m n : ℕ) → n < 12 → (m ≡ 0 → ⊥) → reverse (left m n) ≡ (m % 32 - 1) ∷ reverse (left (m / 32) (n + 1))
reverse_last m n h z = ap reverse (left_last m n h z) ∙ reverse-append (left (m / 32) (n + 1)) ((m % 32 - 1) ∷ [])

module _ (a b : ℕ) where
  pub turned_start : order_from a (reverse (codes_in b)) ≡ order_from a (reverse (left b 0))
  unfolding codes_in
  turned_start = refl

  module _ (m rest n : ℕ) (inv : order_from a (reverse (codes_in b)) ≡ order_from m (reverse (left rest n))) where
    pub turned_on : {c k : ℕ} → n < 12 → (rest ≡ 0 → ⊥) → c ≡ rest % 32 - 1 → k ≡ with_code m c → order_from a (reverse (codes_in b)) ≡ order_from k (reverse (left (rest / 32) (n + 1)))
    unfolding order_from
    turned_on h z e f = inv ∙ ap (order_from m) (reverse_last rest n h z) ∙ rw (f, e)

    turned_done : left rest n ≡ [] → m ≡ order_from a (reverse (codes_in b))
    unfolding order_from
    turned_done e = sym (inv ∙ ap (λ l. order_from m (reverse l)) e)

    pub turned_stop : rest ≡ 0 → m ≡ order_from a (reverse (codes_in b))
    turned_stop z = turned_done (codes_none (12 - n) rest z)

    pub turned_full : 12 ≤ n → m ≡ order_from a (reverse (codes_in b))
    turned_full h = turned_done (left_over rest n h)

pub ruleset turned_ends = (turned_start, turned_on, turned_stop, turned_full)

module _ (order mask : ℕ) where
  abbrev shown_turned : ℕ
  shown_turned = order_of (select (bit? mask) (reverse (codes_in order)))

  pub shown_start : shown_turned ≡ order_from 0 (select (bit? mask) (reverse (left order 0)))
  unfolding codes_in order_of
  shown_start = refl

  module _ (m rest n : ℕ) (inv : shown_turned ≡ order_from m (select (bit? mask) (reverse (left rest n)))) where
    pub shown_on : {c k : ℕ} → n < 12 → (rest ≡ 0 → ⊥) → c ≡ rest % 32 - 1 → k ≡ cond (bit? mask c) (with_code m c) m → shown_turned ≡ order_from k (select (bit? mask) (reverse (left (rest / 32) (n + 1))))
    shown_on h z e f =
        inv ∙ ap (λ l. order_from m (select (bit? mask) l)) (reverse_last rest n h z)
        ∙ passed (bit? mask) m (rest % 32 - 1) (reverse (left (rest / 32) (n + 1))) ∙ rw (f, e)

    shown_done : left rest n ≡ [] → m ≡ shown_turned
    unfolding order_from select
    shown_done e = sym (inv ∙ ap (λ l. order_from m (select (bit? mask) (reverse l))) e)

    pub shown_stop : rest ≡ 0 → m ≡ shown_turned
    shown_stop z = shown_done (codes_none (12 - n) rest z)

    pub shown_full : 12 ≤ n → m ≡ shown_turned
    shown_full h = shown_done (left_over rest n h)

pub ruleset within_ends = (shown_start, shown_on, shown_stop, shown_full)

-- ---- turned twice

fit_turned : (xs ys : List ℕ) → T (codes_fit xs) → T (codes_fit ys) → T (codes_fit (reverse_aux xs ys))
unfolding every
fit_turned [] ys t u = u
fit_turned (x ∷ xs) ys t u = fit_turned xs (x ∷ ys) (and_r (ltb x 31) (codes_fit xs) t) (and_both (ltb x 31) (codes_fit ys) (and_l (ltb x 31) (codes_fit xs) t) u)

select_turned : (p : ℕ → Bool) (xs ys : List ℕ) → select p (reverse_aux xs ys) ≡ reverse_aux (select p xs) (select p ys)
unfolding select
select_turned p [] ys = refl
select_turned p (x ∷ xs) ys = select_turned p xs (x ∷ ys) ∙ go (p x)
  where
    go : (b : Bool) → reverse_aux (select p xs) (cond b (x ∷ select p ys) (select p ys)) ≡ reverse_aux (cond b (x ∷ select p xs) (select p xs)) (select p ys)
    go true = refl
    go false = refl

reverse_select : (p : ℕ → Bool) (xs : List ℕ) → select p (reverse xs) ≡ reverse (select p xs)
unfolding select
reverse_select p xs = select_turned p xs []

module _ (a : ℕ) (cs : List ℕ) (h : length cs ≤ 12) (t : T (codes_fit cs)) {m k : ℕ} (e : m ≡ order_of (reverse cs)) (f : k ≡ order_from a (reverse (codes_in m))) where
  turned_twice : k ≡ order_from a cs
  unfolding every
  turned_twice =
      let l = length-reverse cs in
      f ∙ ap (λ x. order_from a (reverse (codes_in x))) e ∙ ap (λ l. order_from a (reverse l)) (codes_of (reverse cs) (omega arith) (fit_turned cs [] t tt)) ∙ ap (order_from a) (reverse-reverse cs)

pub joined_turned : (a b : ℕ) {m k : ℕ} → m ≡ order_from 0 (reverse (codes_in b)) → k ≡ order_from a (reverse (codes_in m)) → k ≡ order_from a (codes_in b)
unfolding order_of
joined_turned a b e f = turned_twice a (codes_in b) (most_codes b) (small_codes b) e f

pub within_turned : (order mask : ℕ) {m k : ℕ} → m ≡ order_of (select (bit? mask) (reverse (codes_in order))) → k ≡ order_from 0 (reverse (codes_in m)) → k ≡ order_within mask order
unfolding order_within order_of
within_turned order mask e f =
    let cs = codes_in order in
    let l = length_select (bit? mask) cs in
    let n = most_codes order in
    turned_twice 0 (select (bit? mask) cs) (omega arith) (fit_select (bit? mask) cs (small_codes order)) (e ∙ ap (λ l. order_from 0 l) (reverse_select (bit? mask) cs)) f
